-- Replacement of equals, conversion, and what follows from equations.
use Rattle.std.specs.Prelude.{ℕ, ◌≡◌, List, slice_get, Some}
use Rattle.uc_term.specs.Tree.{Tree, apply}
use Rattle.uc_term.specs.Within.{Within, Steps}
use Rattle.uc_term.specs.declared.equation.Equation.{Equation}
use Rattle.uc_term.specs.declared.equation.Side.{Side}
use Rattle.uc_term.specs.Equations.{Sides}

-- u and v are the two sides, in either order, of an instance of an equation
pub record Turn (es : List Equation) (u v : Tree) : Type 0 where
  pub number : ℕ
  pub side : Side
  pub l : Tree
  pub r : Tree
  pub sides : Sides es number side l r
  pub σ : ℕ → Tree
  pub u_is : u ≡ apply σ l
  pub v_is : v ≡ apply σ r

-- u and v are the two sides, in either order, of one instance of an equation; or they have the same head, are equal in
-- all arguments but one, and those two arguments make a step
abbrev pub Step : List Equation → Tree → Tree → Type 0
Step es = Within (Turn es)

-- a list of terms leads from u to v, whose neighbours make steps
abbrev pub Conv : List Equation → Tree → Tree → Type 0
Conv es = Steps (Step es)

-- some instance of the goal's two sides is a conversion
pub record Follows (es : List Equation) (goal : Equation) : Type 0 where
  pub σ : ℕ → Tree
  pub conversion : Conv es (apply σ goal.left) (apply σ goal.right)

-- one of the goals follows
pub record SomeFollows (es goals : List Equation) : Type 0 where
  pub number : ℕ
  pub goal : Equation
  pub goal_is : slice_get goals number ≡ Some goal
  pub follows : Follows es goal
