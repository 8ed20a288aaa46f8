-- An order of variables with one more variable at a place.
use Rattle.std.specs.Prelude.{ℕ, zero, suc, List, [], ◌∷◌, ◌++◌, map, take, drop}
use Rattle.uc_order.specs.VarOrders.{Classes, placed}

-- alone before the class of a number, or after all
abbrev pub alone_at : Classes → ℕ → ℕ → Classes
alone_at cs i v = take i cs ++ (v ∷ []) ∷ drop i cs

-- at the end of the class of a number
abbrev pub joined_at : Classes → ℕ → ℕ → Classes
joined_at [] i v = []
joined_at (c ∷ cs) zero v = (c ++ v ∷ []) ∷ cs
joined_at (c ∷ cs) (suc i) v = c ∷ joined_at cs i v

-- the orders that are left where those before the class of a number are made
abbrev pub placed_from : ℕ → Classes → ℕ → List Classes
placed_from v cs zero = placed v cs
placed_from v [] (suc i) = []
placed_from v (c ∷ cs) (suc i) = map (λ ds. c ∷ ds) (placed_from v cs i)
