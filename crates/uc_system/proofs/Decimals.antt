-- Numbers as they are printed: numerals, which stand in one line.
use Rattle.std.proofs.Common.{◌≡◌, ℕ, zero, suc, ◌<◌, ◌≤◌, ◌^◌, ◌==◌, Bool, true, not, ◌&&◌, List, [], ◌∷◌, ◌++◌, length, get_or, refl, ap, arith, decimal}
use Rattle.std.specs.List.{list_all}
use Rattle.std.specs.Str.Parse.{AllDigits}
use Rattle.std.proofs.lemmas.Str.Parse.{digit_from_value}
use Rattle.std.proofs.lemmas.Fmt.{decimal_is_IsNumeral, first_decimal, decimal_digit}
use Rattle.std.proofs.lemmas.Bool.Decides.{nat_tests}
use Rattle.uc_clause.specs.Bytes.{is_digit, is_digits, in_line}
use Rattle.uc_system.specs.Numerals.{is_numeral, value_of}
use Rattle.uc_system.proofs.Splits.{and_left, and_right, and_both}

pub all_append : (p : ℕ → Bool) (xs ys : List ℕ) → list_all p xs ≡ true → list_all p ys ≡ true → list_all p (xs ++ ys) ≡ true
all_append p [] ys h k = k
all_append p (x ∷ xs) ys h k = and_both (p x) _ (and_left (p x) _ h) (all_append p xs ys (and_right (p x) _ h) k)

is_digit_by : (c : ℕ) → 48 ≤ c → c ≤ 57 → is_digit c ≡ true
is_digit_by c h k = grind (arith, nat_tests)

digits_are : (ds : List ℕ) → AllDigits 10 ds → list_all is_digit ds ≡ true
digits_are [] h = refl
digits_are (d ∷ ds) h = let r = digit_from_value d h.0 in and_both (is_digit d) _ (is_digit_by d r.0 r.1) (digits_are ds h.1)

numeral_by : (ds : List ℕ) → 0 < length ds → list_all is_digit ds ≡ true → (get_or ds 0 0 ≡ 48 → length ds ≡ 1) → is_numeral ds ≡ true
numeral_by [] h all lead = absurd (omega arith)
numeral_by (b ∷ []) h all lead = and_left (is_digit b) _ all
numeral_by (b ∷ c ∷ bs) h all lead = and_both (is_digit b && not (b == 48)) _ (and_both (is_digit b) _ (and_left (is_digit b) _ all) (not_zero b (λ e. omega (arith, lead e)))) (and_right (is_digit b) _ all)
  where
    not_zero : (b : ℕ) → (b ≡ 48 → ⊥) → not (b == 48) ≡ true
    not_zero b n = grind (arith, nat_tests)

pub decimal_numeral : (n : ℕ) → n < 2 ^ 64 → is_numeral (decimal n) ≡ true
decimal_numeral n h = by_case n h
  where
    digits : (n : ℕ) → n < 2 ^ 64 → list_all is_digit (decimal n) ≡ true
    digits n h = digits_are (decimal n) (decimal_is_IsNumeral n h).0.1

    by_case : (n : ℕ) → n < 2 ^ 64 → is_numeral (decimal n) ≡ true
    by_case zero h = numeral_by (decimal 0) (decimal_is_IsNumeral 0 h).0.0 (digits 0 h) (λ e. ap length (decimal_digit 0 (omega arith)))
    by_case (suc n) h = numeral_by (decimal (suc n)) (decimal_is_IsNumeral (suc n) h).0.0 (digits (suc n) h) (λ e. absurd (omega (arith, first_decimal (suc n) (omega arith) h)))

pub decimal_value : (n : ℕ) → n < 2 ^ 64 → value_of (decimal n) ≡ n
decimal_value n h = (decimal_is_IsNumeral n h).1

digit_in_line : (d : ℕ) → is_digit d ≡ true → in_line d ≡ true
digit_in_line d h = grind (arith, nat_tests)

pub digits_in_line : (ds : List ℕ) → list_all is_digit ds ≡ true → list_all in_line ds ≡ true
digits_in_line [] h = refl
digits_in_line (d ∷ ds) h = and_both (in_line d) _ (digit_in_line d (and_left (is_digit d) _ h)) (digits_in_line ds (and_right (is_digit d) _ h))

pub decimal_in_line : (n : ℕ) → n < 2 ^ 64 → list_all in_line (decimal n) ≡ true
decimal_in_line n h = digits_in_line (decimal n) (digits_are (decimal n) (decimal_is_IsNumeral n h).0.1)

pub decimal_digits : (n : ℕ) → n < 2 ^ 64 → is_digits (decimal n) ≡ true
decimal_digits n h = digits_by (decimal n) (decimal_is_IsNumeral n h).0.0 (digits_are (decimal n) (decimal_is_IsNumeral n h).0.1)
  where
    digits_by : (ds : List ℕ) → 0 < length ds → list_all is_digit ds ≡ true → is_digits ds ≡ true
    digits_by [] some all = absurd (omega (arith, some))
    digits_by (b ∷ bs) some all = all
