-- What stands at a place of a list is in it.
use Rattle.std.proofs.Common.{ℕ, zero, suc, ◌<◌, List, [], ◌∷◌, length, get_or, arith}
use Rattle.uc_order.specs.Members.{In, in_front, in_rest}

pub get_in : {A : Type 0} (xs : List A) (i : ℕ) (d : A) → i < length xs → In xs (get_or xs i d)
get_in [] i d h = absurd (omega arith)
get_in (x ∷ xs) zero d h = in_front
get_in (x ∷ xs) (suc i) d h = in_rest (get_in xs i d (omega arith))
