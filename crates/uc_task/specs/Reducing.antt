-- Whether an equation has another one as an instance, and whether a subterm is an instance of a pattern.
use Rattle.std.specs.Prelude.{ℕ, ◌≡◌, ◌<◌}
use Rattle.uc_term.specs.Tree.{Tree, apply, nodes, subterm}
use Rattle.uc_term.specs.declared.equation.Equation.{Equation}
use Rattle.uc_term.specs.declared.equation.Side.{Side}
use Rattle.uc_unify.specs.Matching.{HasNoMatch}
use Rattle.uc_machine.specs.Results.{IsInstanceFrom}

-- one substitution makes the two terms the left and the right side
pub record Gives (left right : Tree) (e : Equation) : Type 0 where
  pub σ : ℕ → Tree
  pub left_is : e.left ≡ apply σ left
  pub right_is : e.right ≡ apply σ right

-- either way round
pub record HasInstance (e f : Equation) : Type 0 where
  pub side : Side
  pub is : IsInstanceFrom e side f.left f.right

-- no subterm is an instance of the pattern
abbrev pub HasNoPart : Tree → Tree → Type 0
HasNoPart pattern t = (p : ℕ) → p < nodes t → HasNoMatch pattern (subterm t p)
