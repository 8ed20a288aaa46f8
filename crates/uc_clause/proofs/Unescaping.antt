-- The bytes that pieces stand for, one by one.
use Rattle.std.proofs.Common.{◌≡◌, ℕ, ◌+◌, ◌<◌, ◌≤◌, List, [], ◌∷◌, ◌++◌, length, get_or, drop, length-drop, refl, sym, ap, ◌∙◌, arith, append_assoc, append-nil, ⊎_elim, true, false}
use Rattle.std.specs.Prelude.{◌==◌, if◌then◌else◌}
use Rattle.std.proofs.lemmas.Bool.{cases_Bool}
use Rattle.std.proofs.lemmas.List.{drop_more}
use Rattle.uc_clause.specs.Names.{unescaped}

escape_is : (b c : ℕ) (ys : List ℕ) → (b == 92) ≡ true → unescaped (b ∷ c ∷ ys) ≡ c ∷ unescaped ys
escape_is b c ys e = rw e refl

plain_is : (b c : ℕ) (ys : List ℕ) → (b == 92) ≡ false → unescaped (b ∷ c ∷ ys) ≡ b ∷ unescaped (c ∷ ys)
plain_is b c ys e = rw e refl

pub unescaped_at : (xs : List ℕ) (at from : ℕ) → at + 1 < length xs → from ≡ (if get_or xs at 0 == 92 then at + 1 else at) → unescaped (drop at xs) ≡ get_or xs from 0 ∷ unescaped (drop (from + 1) xs)
unescaped_at xs at from some e =
    let first : drop at xs ≡ get_or xs at 0 ∷ drop (at + 1) xs = drop_more xs at 0 (omega arith) in
    let second : drop (at + 1) xs ≡ get_or xs (at + 1) 0 ∷ drop (at + 1 + 1) xs = drop_more xs (at + 1) 0 (omega arith) in
    ⊎_elim
    (λ t. let here : from ≡ at + 1 = rw t at e in rw (here, first, second) (escape_is (get_or xs at 0) (get_or xs (at + 1) 0) (drop (at + 1 + 1) xs) t))
    (λ t. let here : from ≡ at = rw t at e in rw (here, first, second) (plain_is (get_or xs at 0) (get_or xs (at + 1) 0) (drop (at + 1 + 1) xs) t))
    (cases_Bool (get_or xs at 0 == 92))

pub unescaped_more : (xs out more : List ℕ) (at from : ℕ) → at + 1 < length xs → from ≡ (if get_or xs at 0 == 92 then at + 1 else at) → out ++ unescaped (drop at xs) ≡ unescaped xs → more ≡ out ++ get_or xs from 0 ∷ [] → more ++ unescaped (drop (from + 1) xs) ≡ unescaped xs
unescaped_more xs out more at from some e before after =
    ap (λ l. l ++ unescaped (drop (from + 1) xs)) after ∙ append_assoc out (get_or xs from 0 ∷ []) (unescaped (drop (from + 1) xs)) ∙ ap (λ l. out ++ l) (sym (unescaped_at xs at from some e)) ∙ before

one_left : (ys : List ℕ) → length ys ≤ 1 → unescaped ys ≡ []
one_left [] h = refl
one_left (b ∷ []) h = refl
one_left (b ∷ c ∷ ys) h = absurd (omega arith)

pub unescaped_end : (xs out : List ℕ) (at : ℕ) → length xs ≤ at + 1 → out ++ unescaped (drop at xs) ≡ unescaped xs → out ≡ unescaped xs
unescaped_end xs out at h e = sym (append-nil out) ∙ ap (λ l. out ++ l) (sym (one_left (drop at xs) (omega (arith, length-drop at xs)))) ∙ e
