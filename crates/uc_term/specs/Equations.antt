-- Equations by their numbers from 0, each used from left to right or from right to left.
use Rattle.std.specs.Prelude.{ℕ, ◌≡◌, List, slice_get, Some}
use Rattle.uc_term.specs.Tree.{Tree}
use Rattle.uc_term.specs.declared.equation.Equation.{Equation}
use Rattle.uc_term.specs.declared.equation.Side.{Side}
use Rattle.uc_term.specs.declared.equation.Side.TheVariants.{Left, Right}

abbrev pub side_of : Side → Equation → Tree
side_of Left e = e.left
side_of Right e = e.right

abbrev pub other_side_of : Side → Equation → Tree
other_side_of Left e = e.right
other_side_of Right e = e.left

-- l is that side of the equation of that number, and r is its other side
pub record Sides (es : List Equation) (number : ℕ) (side : Side) (l r : Tree) : Type 0 where
  pub equation : Equation
  pub equation_is : slice_get es number ≡ Some equation
  pub left_is : l ≡ side_of side equation
  pub right_is : r ≡ other_side_of side equation
