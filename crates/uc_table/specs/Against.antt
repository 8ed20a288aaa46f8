-- Axioms and goals alike: what each of them has to be under an assignment, by its polarity.
use Rattle.std.specs.Prelude.{ℕ, ◌≡◌, ◌+◌, max, not, Bool, true, false, List, [], ◌∷◌, slice_get, Some, if◌then◌else◌}
use Rattle.uc_term.specs.declared.node.Node.{Node}
use Rattle.uc_term.specs.declared.node.Node.TheVariants.{Var, App}
use Rattle.uc_term.specs.declared.equation.Equation.{Equation}
use Rattle.uc_clause.specs.declared.clause.Clause.{Clause}
use Rattle.uc_clause.specs.declared.clause.Sourced.{Sourced}
use Rattle.uc_check.specs.Clauses.{equation_of}
use Rattle.uc_table.specs.declared.table.Table.{Table}
use Rattle.uc_table.specs.Models.{Assigns, Agree, Differ}
use Rattle.uc_table.specs.Checks.{variable_count, IsFirstAssignment}
use Rattle.uc_table.specs.Evaluating.{IsReady}

abbrev pub is_same : Bool → Bool → Bool
is_same true b = b
is_same false b = not b

-- the equations of the clauses of this polarity, in order
abbrev pub equations_of : Bool → List Sourced → List Equation
equations_of positive [] = []
equations_of positive (s ∷ ss) = if is_same positive s.clause.positive then equation_of s.clause ∷ equations_of positive ss else equations_of positive ss

module _ (table : Table) where
  -- the sides of an axiom have one value, and those of a goal two
  abbrev pub Holds : Bool → Equation → (ℕ → ℕ) → Type 0
  Holds true e α = Agree table e α
  Holds false e α = Differ table e α

  -- so under every assignment
  abbrev pub Keeps : Bool → Equation → Type 0
  Keeps positive e = (α : ℕ → ℕ) → Assigns table.size α → Holds positive e α

  abbrev pub KeepAll : Bool → List Equation → Type 0
  KeepAll positive es = (k : ℕ) (e : Equation) → slice_get es k ≡ Some e → Keeps positive e

  -- the assignment is the first under which it isn't so
  abbrev pub IsAgainst : Bool → List ℕ → Equation → Type 0
  IsAgainst positive vs e = IsFirstAssignment table.size (variable_count e) (Holds positive e) (Holds (not positive) e) vs

  -- both sides of a clause are ready for its variables
  abbrev pub IsReadyClause : List ℕ → Clause → Type 0
  IsReadyClause numbers c = IsReady table numbers (variable_count (equation_of c)) c.left × IsReady table numbers (variable_count (equation_of c)) c.right

  abbrev pub AreReadyClauses : List ℕ → List Sourced → Type 0
  AreReadyClauses numbers clauses = (k : ℕ) (s : Sourced) → slice_get clauses k ≡ Some s → IsReadyClause numbers s.clause

-- how many variables a node, and nodes, have, numbered from 0
abbrev pub node_variables : Node → ℕ
node_variables (Var x) = x + 1
node_variables (App f n) = 0

abbrev pub nodes_variables : List Node → ℕ
nodes_variables [] = 0
nodes_variables (n ∷ ns) = max (node_variables n) (nodes_variables ns)
