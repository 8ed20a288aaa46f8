-- The first of the orders of some variables, and the others.
use Rattle.std.specs.Prelude.{ℕ, List, [], ◌∷◌, drop}
use Rattle.uc_order.specs.VarOrders.{Classes, orders_of}

-- in front of these classes each variable stands alone, the last one first
abbrev pub alone_before : Classes → List ℕ → Classes
alone_before classes [] = classes
alone_before classes (x ∷ xs) = alone_before ((x ∷ []) ∷ classes) xs

abbrev pub first_of : List ℕ → Classes
first_of vars = alone_before [] vars

abbrev pub others_of : List ℕ → List Classes
others_of vars = drop 1 (orders_of vars)
