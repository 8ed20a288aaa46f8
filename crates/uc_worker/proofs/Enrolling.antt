-- Workers that are enrolled in order.
use Rattle.std.proofs.Common.{◌≡◌, ◌≢◌, ℕ, ◌+◌, ◌<◌, List, [], ◌∷◌, ◌++◌, length, get_or, sym, ap, ◌∙◌, arith, inl, inr}
use Rattle.std.proofs.lemmas.List.{get_or_push, get_or_append_left}
use Rattle.std.proofs.lemmas.Bool.{cases_Bool}
use Rattle.std.proofs.lemmas.Bool.Decides.{nat_tests}
use Rattle.std.specs.Prelude.{nat_lt}
use Rattle.uc_book.specs.Openings.{BookView, HasNot}
use Rattle.uc_worker.specs.Hands.{HandView}

pub has_not_more : (n w : ℕ) (vs : List ℕ) → w ≢ n → HasNot n vs → HasNot n (vs ++ w ∷ [])
has_not_more n w [] d h = (d, tt)
has_not_more n w (v ∷ vs) d h = (h.0, has_not_more n w vs d h.1)

-- the enrolled alone change
pub enrolled_more : {O : Type 0} (a b c : BookView O) (es : List ℕ) → b ≡ record a { enrolled = b.enrolled } → c ≡ record b { enrolled = es } → c ≡ record a { enrolled = c.enrolled }
enrolled_more a b c es h k =
    k ∙ ap (λ (v : BookView _). record v { enrolled = es }) h ∙ ap (λ (x : List ℕ). record a { enrolled = x }) (sym (ap (λ (v : BookView _). v.enrolled) k))

-- a hand more
pub hand_more : (xs ys : List HandView) (v : HandView) (n : ℕ) → length xs ≡ n → ys ≡ xs ++ v ∷ [] → v ≡ record { worker = n; commits = 0 } → ((k : ℕ) (d : HandView) → k < n → get_or xs k d ≡ record { worker = k; commits = 0 })
    → (k : ℕ) (d : HandView) → k < n + 1 → get_or ys k d ≡ record { worker = k; commits = 0 }
hand_more xs ys v n long is hand each k d l = elim (cases_Bool (nat_lt k n)) [
  | inl b ↦
      let below : k < n = grind (arith, nat_tests) in
      ap (λ zs. get_or zs k d) is ∙ get_or_append_left xs (v ∷ []) d k (omega arith) ∙ each k d below
  | inr b ↦
      let here : k ≡ n = grind (arith, nat_tests) in
      ap (λ zs. get_or zs k d) is ∙ get_or_push xs v d k (omega arith) ∙ hand ∙ ap (λ i. record { worker = i; commits = 0 }) (sym here)
]
