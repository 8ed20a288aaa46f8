-- The laws of an associative and commutative symbol: brackets, two arguments exchanged, and the first two of three exchanged.
use Rattle.std.specs.Prelude.{ℕ, ◌≢◌, ◌⊎◌}
use Rattle.uc_term.specs.declared.node.Sym.{Sym}
use Rattle.uc_term.specs.declared.node.Node.{Node}
use Rattle.uc_term.specs.declared.node.Node.TheVariants.{Var, App}
use Rattle.uc_term.specs.declared.equation.Equation.{Equation}
use Rattle.uc_term.specs.Tree.{Tree, var}
use Rattle.uc_order.specs.Laws.{pair_of}
use Rattle.uc_ac.specs.declared.ac_law.AcLaw.{AcLaw}
use Rattle.uc_ac.specs.declared.ac_law.AcLaw.TheVariants.{Assoc, Comm, Extended}

-- the two sides of the law for f, the variables named in whatever way
pub data AreSides (f : Sym) : AcLaw → Tree → Tree → Type 0 where
  -- f(f(x, y), z) = f(x, f(y, z))
  assoc_sides : {x y z : ℕ} → x ≢ y → x ≢ z → y ≢ z → AreSides f Assoc (pair_of f (pair_of f (var x) (var y)) (var z)) (pair_of f (var x) (pair_of f (var y) (var z)))
  -- f(x, y) = f(y, x)
  comm_sides : {x y : ℕ} → x ≢ y → AreSides f Comm (pair_of f (var x) (var y)) (pair_of f (var y) (var x))
  -- f(x, f(y, z)) = f(y, f(x, z))
  extended_sides : {x y z : ℕ} → x ≢ y → x ≢ z → y ≢ z → AreSides f Extended (pair_of f (var x) (pair_of f (var y) (var z))) (pair_of f (var y) (pair_of f (var x) (var z)))

-- the equation is the law for f, either way round
abbrev pub IsLaw : AcLaw → Sym → Equation → Type 0
IsLaw law f e = AreSides f law e.left e.right ⊎ AreSides f law e.right e.left

-- the nodes are two different variables, or three
abbrev pub AreTwoVariables : Node → Node → Type 0
AreTwoVariables (Var x) (Var y) = x ≢ y
AreTwoVariables (Var x) (App g m) = ⊥
AreTwoVariables (App f n) y = ⊥

abbrev pub AreVariables : Node → Node → Node → Type 0
AreVariables x y z = AreTwoVariables x y × AreTwoVariables x z × AreTwoVariables y z
