-- The equations that clauses say and deny.
use Rattle.std.specs.Prelude.{ℕ, List, [], ◌∷◌, if◌then◌else◌, ◌≡◌, slice_get, Option, Some, None}
use Rattle.uc_term.specs.declared.equation.Equation.{Equation}
use Rattle.uc_term.specs.declared.fresh.Fresh.{Fresh}
use Rattle.uc_term.specs.Encoding.{AreDistinct, Lacks, encoded, HasGoal}
use Rattle.uc_clause.specs.declared.clause.Clause.{Clause}
use Rattle.uc_clause.specs.declared.clause.Sourced.{Sourced}

-- the equation between a clause's sides
abbrev pub equation_of : Clause → Equation
equation_of c = record { left = c.left; right = c.right }

-- the axioms: the equations of the positive clauses, in order
abbrev pub axioms_of : List Sourced → List Equation
axioms_of [] = []
axioms_of (s ∷ ss) = if s.clause.positive then equation_of s.clause ∷ axioms_of ss else axioms_of ss

-- the goals: the equations that the negative clauses deny, in order
abbrev pub goals_of : List Sourced → List Equation
goals_of [] = []
goals_of (s ∷ ss) = if s.clause.positive then goals_of ss else equation_of s.clause ∷ goals_of ss

-- the encoding's symbols occur in no clause
abbrev pub LackInClauses : Fresh → List Sourced → Type 0
LackInClauses fresh clauses = (i : ℕ) (s : Sourced) → slice_get clauses i ≡ Some s → Lacks fresh s.clause.left × Lacks fresh s.clause.right

-- the equations by which a proof may argue: the axioms, and where the problem is encoded, eq(X,X) = true and its goals as
-- equations
abbrev pub premises_of : Option Fresh → List Sourced → List Equation
premises_of None clauses = axioms_of clauses
premises_of (Some fresh) clauses = encoded fresh (axioms_of clauses) (goals_of clauses)

-- the encoding's symbols, where there are some, are three and occur in no clause
abbrev pub AreFresh : Option Fresh → List Sourced → Type 0
AreFresh None clauses = Unit {0}
AreFresh (Some fresh) clauses = AreDistinct fresh × LackInClauses fresh clauses

-- where the problem is encoded, it has a goal
abbrev pub HasGoalIfEncoded : Option Fresh → List Sourced → Type 0
HasGoalIfEncoded None clauses = Unit {0}
HasGoalIfEncoded (Some fresh) clauses = HasGoal (goals_of clauses)
