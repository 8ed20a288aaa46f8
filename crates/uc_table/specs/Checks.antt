-- What a table is to a problem, with the first clause that is against it, and the first assignment.
use Rattle.std.specs.Prelude.{ℕ, ◌≡◌, ◌+◌, ◌<◌, ◌≤◌, ◌^◌, max, List, slice_get, Some}
use Rattle.uc_term.specs.Tree.{Tree, var, app, Trees, none, more}
use Rattle.uc_term.specs.declared.equation.Equation.{Equation}
use Rattle.uc_clause.specs.declared.clause.Sourced.{Sourced}
use Rattle.uc_check.specs.Clauses.{equation_of, axioms_of, goals_of}
use Rattle.uc_table.specs.declared.table.Table.{Table}
use Rattle.uc_table.specs.declared.answers.Tabled.{Tabled}
use Rattle.uc_table.specs.declared.answers.Tabled.TheVariants.{Model, AxiomFails, GoalMeets, Assignments}
use Rattle.uc_table.specs.Algebras.{place_of, given}
use Rattle.uc_table.specs.Tables.{IsRow, MOST_ASSIGNMENTS}
use Rattle.uc_table.specs.Models.{Agree, Differ, Satisfies, KeepsApart, SatisfiesAll, IsModel}

-- How many variables a term has: they are numbered from 0, so this is one more than the greatest number, and 0 where there is
-- none.
abbrev mutual
  pub variables_in : Tree → ℕ
  variables_in (var x) = x + 1
  variables_in (app f ts) = variables_in_all ts

  pub variables_in_all : Trees → ℕ
  variables_in_all none = 0
  variables_in_all (more t ts) = max (variables_in t) (variables_in_all ts)

-- the same of the two sides of an equation together
abbrev pub variable_count : Equation → ℕ
variable_count e = max (variables_in e.left) (variables_in e.right)

-- how many assignments an equation has: one for each list of values of its variables
abbrev pub assignment_count : ℕ → Equation → ℕ
assignment_count size e = size ^ variable_count e

abbrev pub HasTooMany : ℕ → Sourced → Type 0
HasTooMany size s = MOST_ASSIGNMENTS < assignment_count size (equation_of s.clause)

abbrev pub HasFewEnough : ℕ → Sourced → Type 0
HasFewEnough size s = assignment_count size (equation_of s.clause) ≤ MOST_ASSIGNMENTS

-- each clause has at most 16,777,216 assignments
abbrev pub AreFewEnough : ℕ → List Sourced → Type 0
AreFewEnough size clauses = (k : ℕ) (s : Sourced) → slice_get clauses k ≡ Some s → HasFewEnough size s

-- x stands at place k, and is bad; what stands before it is good
pub record IsFirstAt {A : Type 0} (Good Bad : A → Type 0) (xs : List A) (k : ℕ) (x : A) : Type 0 where
  pub is : slice_get xs k ≡ Some x
  pub bad : Bad x
  pub before : (j : ℕ) (y : A) → j < k → slice_get xs j ≡ Some y → Good y

-- The assignment, as the list of the values of so many variables, is bad; those before it are good. In the order of the
-- assignments variable 0 changes slowest.
pub record IsFirstAssignment (size count : ℕ) (Good Bad : (ℕ → ℕ) → Type 0) (vs : List ℕ) : Type 0 where
  pub assigns : IsRow size count vs
  pub bad : Bad (given vs)
  pub before : (us : List ℕ) → IsRow size count us → place_of size us < place_of size vs → Good (given us)

module _ (table : Table) where
  -- the assignment is the first under which the sides of an axiom have two values
  abbrev pub FailsAt : List ℕ → Equation → Type 0
  FailsAt vs e = IsFirstAssignment table.size (variable_count e) (Agree table e) (Differ table e) vs

  -- the assignment is the first under which the sides of a goal have one value
  abbrev pub MeetsAt : List ℕ → Equation → Type 0
  MeetsAt vs e = IsFirstAssignment table.size (variable_count e) (Differ table e) (Agree table e) vs

  module _ (clauses : List Sourced) where
    -- First comes the first clause with too many assignments, then the first axiom that fails, then the first goal that meets.
    pub data Checks : Tabled → Type 0 where
      has_too_many : {k : ℕ} {s : Sourced} → IsFirstAt (HasFewEnough table.size) (HasTooMany table.size) clauses k s → Checks (Assignments k)
      axiom_fails : {k : ℕ} {e : Equation} {vs : List ℕ} → AreFewEnough table.size clauses → IsFirstAt (Satisfies table) (FailsAt vs) (axioms_of clauses) k e → Checks (AxiomFails k vs)
      goal_meets : {k : ℕ} {e : Equation} {vs : List ℕ} → AreFewEnough table.size clauses → SatisfiesAll table (axioms_of clauses) → IsFirstAt (KeepsApart table) (MeetsAt vs) (goals_of clauses) k e → Checks (GoalMeets k vs)
      is_model : AreFewEnough table.size clauses → IsModel table clauses → Checks Model
