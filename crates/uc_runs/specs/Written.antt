-- Facts as they can be written down and read again.
use Rattle.std.specs.Prelude.{ℕ, ◌≡◌, ◌≤◌, ◌++◌, List, slice_get, Some}
use Rattle.uc_term.specs.declared.equation.Equation.{Equation}
use Rattle.uc_term.specs.Tree.{nodes}
use Rattle.uc_term.specs.Variables.{variables, firsts, renumbered_by}

-- the variables are numbered by first occurrence, left side first: to number them so changes nothing
pub record IsNumbered (e : Equation) : Type 0 where
  pub left : renumbered_by (firsts (variables e.left ++ variables e.right)) e.left ≡ e.left
  pub right : renumbered_by (firsts (variables e.left ++ variables e.right)) e.right ≡ e.right

-- so are those of each equation
abbrev pub AreNumbered : List Equation → Type 0
AreNumbered es = (number : ℕ) (e : Equation) → slice_get es number ≡ Some e → IsNumbered e

-- no side of an equation has more than 4,096 nodes
abbrev pub AreSmall : List Equation → Type 0
AreSmall es = (number : ℕ) (e : Equation) → slice_get es number ≡ Some e → (nodes e.left ≤ 4096) × (nodes e.right ≤ 4096)
