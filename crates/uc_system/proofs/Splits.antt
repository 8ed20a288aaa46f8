-- Texts split at their last space; numerals, which have none; and names by their spelling.
use Rattle.std.proofs.Common.{◌≡◌, ℕ, ◌==◌, Bool, true, false, not, ◌&&◌, List, [], ◌∷◌, ◌++◌, refl, sym, ap, ap₂, ◌∙◌, subst, arith}
use Rattle.std.specs.List.{list_all}
use Rattle.std.proofs.lemmas.Bool.Decides.{nat_tests}
use Rattle.std.proofs.lemmas.Bool.{and_parts, and_from}
use Rattle.uc_clause.specs.Bytes.{is_digit, is_lower, is_name}
use Rattle.uc_clause.specs.Names.{stands_for, spelling, kind_of_word}
use Rattle.uc_clause.proofs.Joined.{stands_for_spelling}
use Rattle.uc_system.specs.Numerals.{is_numeral}
use Rattle.uc_system.specs.Written.{HasNoSpace, kind_at}

pub and_left : (a b : Bool) → (a && b) ≡ true → a ≡ true
and_left a b h = (and_parts a b h).0

pub and_right : (a b : Bool) → (a && b) ≡ true → b ≡ true
and_right a b h = (and_parts a b h).1

pub and_both : (a b : Bool) → a ≡ true → b ≡ true → (a && b) ≡ true
and_both a b e f = and_from a b e f

pub has_space : (xs ys : List ℕ) → HasNoSpace (xs ++ 32 ∷ ys) → ⊥
has_space [] ys h = cc
has_space (x ∷ xs) ys h = has_space xs ys (and_right (not (x == 32)) _ h)

pub split_once : (f g b c : List ℕ) → HasNoSpace b → HasNoSpace c → f ++ 32 ∷ b ≡ g ++ 32 ∷ c → (f ≡ g) × (b ≡ c)
split_once [] [] b c h k e = let same : b ≡ c = cc in (refl, same)
split_once [] (x ∷ g) b c h k e = absurd (let t : b ≡ g ++ 32 ∷ c = cc in has_space g c (subst HasNoSpace t h))
split_once (x ∷ f) [] b c h k e = absurd (let t : c ≡ f ++ 32 ∷ b = cc in has_space f b (subst HasNoSpace t k))
split_once (x ∷ f) (y ∷ g) b c h k e =
    let heads : x ≡ y = cc in
    let tails : f ++ 32 ∷ b ≡ g ++ 32 ∷ c = cc in
    let r = split_once f g b c h k tails in
    (ap₂ (λ a l. a ∷ l) heads r.0, r.1)

digit_no_space : (d : ℕ) → is_digit d ≡ true → not (d == 32) ≡ true
digit_no_space d h = grind (arith, nat_tests)

pub digits_no_space : (ds : List ℕ) → list_all is_digit ds ≡ true → HasNoSpace ds
digits_no_space [] h = refl
digits_no_space (d ∷ ds) h = and_both _ _ (digit_no_space d (and_left (is_digit d) _ h)) (digits_no_space ds (and_right (is_digit d) _ h))

pub numeral_digits : (ds : List ℕ) → is_numeral ds ≡ true → list_all is_digit ds ≡ true
numeral_digits [] h = absurd (cc)
numeral_digits (b ∷ []) h = and_both _ _ h refl
numeral_digits (b ∷ c ∷ bs) h = and_both _ _ (and_left (is_digit b) _ (and_left (is_digit b && not (b == 48)) _ h)) (and_right (is_digit b && not (b == 48)) _ h)

pub numeral_no_space : (ds : List ℕ) → is_numeral ds ≡ true → HasNoSpace ds
numeral_no_space ds h = digits_no_space ds (numeral_digits ds h)

lower_no_quote : (b : ℕ) → is_lower b ≡ true → (b == 39) ≡ false
lower_no_quote b h = grind (arith, nat_tests)

pub kind_is : (w : List ℕ) → kind_at (spelling w) ≡ kind_of_word w
kind_is w = by_name w (is_name w) refl
  where
    by_name : (w : List ℕ) (is : Bool) → is_name w ≡ is → kind_at (spelling w) ≡ kind_of_word w
    by_name w false e = rw e refl
    by_name [] true e = absurd (cc)
    by_name (b ∷ bs) true e = let low : (b == 39) ≡ false = lower_no_quote b (and_left (is_lower b) _ e) in rw (e, low) refl

-- a name is what its spelling stands for
pub name_back : (w : List ℕ) → stands_for (kind_at (spelling w)) (spelling w) ≡ w
name_back w = ap (λ k. stands_for k (spelling w)) (kind_is w) ∙ stands_for_spelling w

pub name_once : (v w : List ℕ) → spelling v ≡ spelling w → v ≡ w
name_once v w e = sym (name_back v) ∙ ap (λ s. stands_for (kind_at s) s) e ∙ name_back w
