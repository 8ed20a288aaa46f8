-- The two sides of a fact that lives.
use Rattle.std.specs.Prelude.{ℕ, ◌≡◌, List, Some}
use Rattle.uc_term.specs.declared.equation.Equation.{Equation}
use Rattle.uc_term.specs.declared.equation.Side.{Side}
use Rattle.uc_term.specs.Equations.{side_of, other_side_of}
use Rattle.uc_term.specs.Tree.{Tree}
use Rattle.uc_fact.specs.Live.{Live, fact_at}

-- from is that side of the fact of that number, and to is its other side
pub record AreSides (live : List Live) (number : ℕ) (side : Side) (from to : Tree) : Type 0 where
  pub equation : Equation
  pub equation_is : fact_at live number ≡ Some equation
  pub from_is : from ≡ side_of side equation
  pub to_is : to ≡ other_side_of side equation
