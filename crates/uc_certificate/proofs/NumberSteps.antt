-- Numbers read digit by digit.
use Rattle.std.proofs.Common.{◌≡◌, ℕ, ◌+◌, ◌-◌, ◌*◌, ◌<◌, ◌≤◌, ◌^◌, min, List, length, get_or, take, arith}
use Rattle.std.specs.Char.{digit_value}
use Rattle.std.specs.Str.Parse.{digits_value}
use Rattle.std.proofs.lemmas.Int.Digits.{digits_value_more}

pub value_more : (ds : List ℕ) (i value product next : ℕ) → i < length ds → digit_value (get_or ds i 0) ≡ get_or ds i 0 - 48 → value ≡ min (digits_value 10 (take i ds)) (2 ^ 64 - 1) → product ≡ min (value * 10) (2 ^ 64 - 1) → next ≡ min (product + (get_or ds i 0 - 48)) (2 ^ 64 - 1) → next ≡ min (digits_value 10 (take (i + 1) ds)) (2 ^ 64 - 1)
value_more ds i value product next h d v p n = let more = digits_value_more 10 ds i h in omega (arith, more, d, v, p, n)
