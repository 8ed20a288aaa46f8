-- Heads of terms and of flat lists.
use Rattle.std.specs.Prelude.{ℕ, ◌≡◌, ◌<◌}
use Rattle.uc_term.specs.declared.node.Sym.{Sym}
use Rattle.uc_term.specs.declared.node.Node.{Node}
use Rattle.uc_term.specs.declared.node.Node.TheVariants.{Var, App}
use Rattle.uc_term.specs.Tree.{Tree, app}

-- both have a head, and it is one symbol
abbrev pub SameHead : Tree → Tree → Type 0
SameHead (app f ss) (app g ts) = f ≡ g
SameHead _ _ = ⊥

-- both have heads, and the left one is lower
abbrev pub IsLower : (Sym → ℕ) → Node → Node → Type 0
IsLower rank (App g n) (App f m) = rank g < rank f
IsLower rank (App g n) (Var x) = ⊥
IsLower rank (Var y) m = ⊥

-- the left one has a head, and the right one a greater one or none
abbrev pub IsPassed : (Sym → ℕ) → Node → Node → Type 0
IsPassed rank (App f n) (App g m) = rank f < rank g
IsPassed rank (App f n) (Var x) = Unit {0}
IsPassed rank (Var y) m = ⊥
