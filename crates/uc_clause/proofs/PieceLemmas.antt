-- Where a quoted text closes.
use Rattle.std.proofs.Common.{◌≡◌, ℕ, zero, suc, ◌+◌, ◌-◌, ◌<◌, ◌≤◌, List, [], ◌∷◌, length, get_or, take, drop, zero-add, refl, sym, ◌∙◌, arith, ◌⊎◌, inl, inr, ⊎_elim, true, false}
use Rattle.std.specs.Prelude.{◌==◌}
use Rattle.std.proofs.lemmas.Bool.{cases_lt}
use Rattle.std.proofs.lemmas.Bool.Decides.{nat_tests}
use Rattle.std.proofs.lemmas.List.{drop_all}
use Rattle.uc_clause.specs.Bytes.{closes}
use Rattle.uc_clause.specs.Pieces.{IsPlain}

pub plain_step : (q b : ℕ) (ys : List ℕ) → (b ≡ q → ⊥) → (b ≡ 92 → ⊥) → 32 ≤ b → b ≤ 126 → closes q (b ∷ ys) ≡ closes q ys
plain_step q b [] nq nb low high = grind (arith, nat_tests)
plain_step q b (c ∷ ys) nq nb low high = grind (arith, nat_tests)

-- a front of one byte at most
one_before : (q b : ℕ) (bs : List ℕ) (m : ℕ) → m < 1 → closes q (take m (b ∷ bs)) ≡ false
one_before q b bs zero h = refl
one_before q b bs (suc m) h = absurd (omega arith)

plain_behind : (q b : ℕ) (bs : List ℕ) → (b ≡ q → ⊥) → (b ≡ 92 → ⊥) → 32 ≤ b → b ≤ 126 → (m : ℕ) → 1 ≤ m → closes q (take m (b ∷ bs)) ≡ closes q (take (m - 1) bs)
plain_behind q b bs nq nb low high zero h = absurd (omega arith)
plain_behind q b bs nq nb low high (suc m) h = let same : suc m - 1 ≡ m = omega arith in rw same (plain_step q b (take m bs) nq nb low high)

pub plain_at : (q : ℕ) (text : List ℕ) → 0 < length text → (get_or text 0 0 ≡ q → ⊥) → (get_or text 0 0 ≡ 92 → ⊥) → 32 ≤ get_or text 0 0 → get_or text 0 0 ≤ 126 → IsPlain q text 1
plain_at q [] some nq nb low high = absurd (omega arith)
plain_at q (b ∷ bs) some nq nb low high = record {
  some = omega arith;
  within = omega arith;
  behind = plain_behind q b bs nq nb low high;
  before = one_before q b bs;
}

escape_step : (q b c : ℕ) (ys : List ℕ) → b ≡ 92 → (c ≡ 92) ⊎ (c ≡ q) → closes q (b ∷ c ∷ ys) ≡ closes q ys
escape_step q b c ys e (inl h) = grind (arith, nat_tests)
escape_step q b c ys e (inr h) = grind (arith, nat_tests)

escape_behind : (q b c : ℕ) (bs : List ℕ) → b ≡ 92 → (c ≡ 92) ⊎ (c ≡ q) → (m : ℕ) → 2 ≤ m → closes q (take m (b ∷ c ∷ bs)) ≡ closes q (take (m - 2) bs)
escape_behind q b c bs e h (suc (suc m)) k = let same : suc (suc m) - 2 ≡ m = omega arith in rw same (escape_step q b c (take m bs) e h)
escape_behind q b c bs e h v k = absurd (omega arith)

not_quote : (q b : ℕ) → (q ≡ 39) ⊎ (q ≡ 34) → b ≡ 92 → (b == q) ≡ false
not_quote q b (inl h) e = grind (arith, nat_tests)
not_quote q b (inr h) e = grind (arith, nat_tests)

escape_before : (q b c : ℕ) (bs : List ℕ) → (q ≡ 39) ⊎ (q ≡ 34) → b ≡ 92 → (m : ℕ) → m < 2 → closes q (take m (b ∷ c ∷ bs)) ≡ false
escape_before q b c bs quote e zero h = refl
escape_before q b c bs quote e (suc zero) h = not_quote q b quote e
escape_before q b c bs quote e (suc (suc m)) h = absurd (omega arith)

pub escape_at : (q : ℕ) (text : List ℕ) → (q ≡ 39) ⊎ (q ≡ 34) → 1 < length text → get_or text 0 0 ≡ 92 → (get_or text 1 0 ≡ 92) ⊎ (get_or text 1 0 ≡ q) → IsPlain q text 2
escape_at q (b ∷ c ∷ bs) quote some e h = record {
  some = omega arith;
  within = omega arith;
  behind = escape_behind q b c bs e h;
  before = escape_before q b c bs quote e;
}
escape_at q v quote some e h = absurd (omega arith)

pub lone_escape : (q : ℕ) (text : List ℕ) → (q ≡ 39) ⊎ (q ≡ 34) → length text ≡ 1 → get_or text 0 0 ≡ 92 → (m : ℕ) → closes q (take m text) ≡ false
lone_escape q (b ∷ []) quote one e zero = refl
lone_escape q (b ∷ []) quote one e (suc zero) = not_quote q b quote e
lone_escape q (b ∷ []) quote one e (suc (suc m)) = not_quote q b quote e
lone_escape q v quote one e m = absurd (omega arith)

pub bad_escape : (q : ℕ) (text : List ℕ) → (q ≡ 39) ⊎ (q ≡ 34) → 1 < length text → get_or text 0 0 ≡ 92 → (get_or text 1 0 ≡ 92 → ⊥) → (get_or text 1 0 ≡ q → ⊥) → (m : ℕ) → closes q (take m text) ≡ false
bad_escape q (b ∷ c ∷ bs) quote some e n k zero = refl
bad_escape q (b ∷ c ∷ bs) quote some e n k (suc zero) = not_quote q b quote e
bad_escape q (b ∷ c ∷ bs) quote some e n k (suc (suc m)) = grind (arith, nat_tests)
bad_escape q v quote some e n k m = absurd (omega arith)

pub drop_both : (n at : ℕ) (xs : List ℕ) → drop n (drop at xs) ≡ drop (at + n) xs
drop_both n zero xs = rw zero-add refl
drop_both n (suc at) [] = drop_all n [] (omega arith) ∙ sym (drop_all (suc at + n) [] (omega arith))
drop_both n (suc at) (x ∷ xs) = let e : suc at + n ≡ suc (at + n) = omega arith in rw e (drop_both n at xs)

take_none : (q m : ℕ) → closes q (take m []) ≡ false
take_none q zero = refl
take_none q (suc m) = refl

-- the loop over pieces
module _ (q : ℕ) (text : List ℕ) (at : ℕ) (behind : (m : ℕ) → at ≤ m → closes q (take m text) ≡ closes q (take (m - at) (drop at text))) (before : (m : ℕ) → m < at → closes q (take m text) ≡ false) where
  pub behind_more : (n : ℕ) → IsPlain q (drop at text) n → (m : ℕ) → at + n ≤ m → closes q (take m text) ≡ closes q (take (m - (at + n)) (drop (at + n) text))
  behind_more n plain m h =
      let left : m - at - n ≡ m - (at + n) = omega arith in
      let moved : drop n (drop at text) ≡ drop (at + n) text = drop_both n at text in
      behind m (omega arith) ∙ plain.behind (m - at) (omega arith) ∙ rw (left, moved) refl

  pub before_more : (n : ℕ) → IsPlain q (drop at text) n → (m : ℕ) → m < at + n → closes q (take m text) ≡ false
  before_more n plain m h = ⊎_elim (λ less. before m less) (λ le. behind m le ∙ plain.before (m - at) (omega arith)) (cases_lt m at)

  pub never : ((m : ℕ) → closes q (take m (drop at text)) ≡ false) → (m : ℕ) → closes q (take m text) ≡ false
  never none m = ⊎_elim (λ less. before m less) (λ le. behind m le ∙ none (m - at)) (cases_lt m at)

  pub closes_now : closes q (take 1 (drop at text)) ≡ true → closes q (take (at + 1) text) ≡ true
  closes_now c = let one : at + 1 - at ≡ 1 = omega arith in behind (at + 1) (omega arith) ∙ rw one c

pub no_more : (q : ℕ) (text : List ℕ) (at : ℕ) → length text ≤ at → (m : ℕ) → closes q (take m (drop at text)) ≡ false
no_more q text at h m = rw (drop_all at text h) (take_none q m)
