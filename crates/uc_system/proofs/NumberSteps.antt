-- Numbers read digit by digit.
use Rattle.std.proofs.Common.{◌≡◌, ℕ, ◌+◌, ◌-◌, ◌*◌, ◌<◌, ◌≤◌, ◌^◌, min, true, List, [], ◌∷◌, length, get_or, take, refl, sym, subst, arith}
use Rattle.std.specs.List.{list_all}
use Rattle.std.specs.Char.{digit_value}
use Rattle.std.proofs.lemmas.Bool.Decides.{nat_tests}
use Rattle.std.proofs.lemmas.Str.{digit_value_digit}
use Rattle.std.proofs.lemmas.Int.Digits.{digits_value_more}
use Rattle.std.proofs.lemmas.List.{take_more}
use Rattle.uc_clause.specs.Bytes.{is_digit}
use Rattle.uc_system.specs.Numerals.{value_of}
use Rattle.uc_system.proofs.Decimals.{all_append}
use Rattle.uc_system.proofs.Splits.{and_both}

pub all_more : (ds : List ℕ) (i : ℕ) → i < length ds → list_all is_digit (take i ds) ≡ true → is_digit (get_or ds i 0) ≡ true → list_all is_digit (take (i + 1) ds) ≡ true
all_more ds i h all d = subst (λ x. list_all is_digit x ≡ true) (sym (take_more ds i 0 h)) (all_append is_digit (take i ds) (get_or ds i 0 ∷ []) all (and_both _ _ d refl))

pub value_more : (ds : List ℕ) (i value product next : ℕ) → i < length ds → digit_value (get_or ds i 0) ≡ get_or ds i 0 - 48 → value ≡ min (value_of (take i ds)) (2 ^ 32 - 1) → product ≡ min (value * 10) (2 ^ 32 - 1) → next ≡ min (product + (get_or ds i 0 - 48)) (2 ^ 32 - 1) → next ≡ min (value_of (take (i + 1) ds)) (2 ^ 32 - 1)
value_more ds i value product next h d v p n = let more = digits_value_more 10 ds i h in omega (arith, more, d, v, p, n)

pub digit_is : (c : ℕ) → is_digit c ≡ true → digit_value c ≡ c - 48
digit_is c h =
    let low : 48 ≤ c = grind (arith, nat_tests) in
    let high : c ≤ 57 = grind (arith, nat_tests) in
    let value : digit_value c + 48 ≡ c = digit_value_digit c (low, high) in
    omega arith
