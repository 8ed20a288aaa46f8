-- The numbers of a path.
use Rattle.std.proofs.Common.{◌≡◌, ℕ, suc, ◌+◌, ◌*◌, ◌-◌, ◌<◌, ◌≤◌, Bool, true, false, List, [], ◌∷◌, length, get_or, drop, drop-cons, Some, None, refl, ap, ◌∙◌, arith}
use Rattle.std.specs.Prelude.{nat_le, ◌&&◌, if◌then◌else◌}
use Rattle.uc_clause.specs.Bytes.{is_digit}
use Rattle.uc_tstp.specs.Lines.{value_from, path_number}

value_low : (n : ℕ) (bs : List ℕ) → n ≤ value_from n bs
value_low n [] = omega arith
value_low n (b ∷ bs) = omega (arith, value_low (n * 10 + (b - 48)) bs)

no : (a b : Bool) (v : ℕ) → (if a && (b && false) then Some v else None) ≡ None
no true true v = refl
no true false v = refl
no false true v = refl
no false false v = refl

pub path_number_above : (n : ℕ) (bs : List ℕ) → 255 < n → path_number n bs ≡ None
path_number_above n bs h =
    let e : nat_le (value_from n bs) 255 ≡ false = grind (arith, value_low n bs) in
    rw e (no _ _ (value_from n bs))

pub path_number_step : (n b : ℕ) (bs : List ℕ) → is_digit b ≡ true → path_number n (b ∷ bs) ≡ path_number (n * 10 + (b - 48)) bs
path_number_step n b bs e = rw e refl

pub path_number_too_big : (n : ℕ) (bs : List ℕ) (i : ℕ) → i < length bs → is_digit (get_or bs i 0) ≡ true → 255 < n * 10 + (get_or bs i 0 - 48) → path_number n (drop i bs) ≡ None
path_number_too_big n bs i h e big =
    ap (path_number n) (drop-cons bs i 0 h) ∙ path_number_step n (get_or bs i 0) (drop (suc i) bs) e ∙ path_number_above (n * 10 + (get_or bs i 0 - 48)) (drop (suc i) bs) big
