-- Substitutions in which the variables without a pair are the least constant.
use Rattle.std.specs.Prelude.{ℕ, ◌≡◌, List, Some, unwrap_or}
use Rattle.uc_term.specs.declared.node.Sym.{Sym}
use Rattle.uc_term.specs.declared.equation.Equation.{Equation}
use Rattle.uc_term.specs.Tree.{Tree, app, none, apply}
use Rattle.uc_term.specs.Subst.{found}
use Rattle.uc_term.specs.Equations.{side_of, other_side_of}
use Rattle.uc_fact.specs.declared.index.Found.{Found}
use Rattle.uc_fact.specs.Live.{Live, fact_at}

-- the term of each variable; a variable without a pair is the least constant
abbrev pub completed : Sym → List (ℕ × Tree) → ℕ → Tree
completed least pairs x = unwrap_or (found pairs x) (app least none)

-- these are the side that was found and the other one
pub record AreSides (live : List Live) (found : Found) (from to : Tree) : Type 0 where
  pub equation : Equation
  pub equation_is : fact_at live found.fact ≡ Some equation
  pub from_is : from ≡ side_of found.side equation
  pub to_is : to ≡ other_side_of found.side equation

-- the instance of the other side is smaller than the term
pub record LeadsDown (Greater : Tree → Tree → Type 0) (least : Sym) (live : List Live) (t : Tree) (found : Found) : Type 0 where
  pub from : Tree
  pub to : Tree
  pub sides : AreSides live found from to
  pub greater : Greater t (apply (completed least found.subst) to)
