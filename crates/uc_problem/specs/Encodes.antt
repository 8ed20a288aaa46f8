-- The encoded problem: its axioms and its ground goals, and which clauses they come from.
use Rattle.std.specs.Prelude.{ℕ, ◌≡◌, ◌+◌, Bool, true, false, List, [], ◌∷◌, ◌++◌, map, Option, Some, None, Result, Ok, Err, if◌then◌else◌}
use Rattle.uc_term.specs.Table.{Table, Grows}
use Rattle.uc_term.specs.Encoding.{encoded, yes_term, no_term}
use Rattle.uc_term.specs.declared.equation.Equation.{Equation}
use Rattle.uc_term.specs.declared.fresh.Fresh.{Fresh}
use Rattle.uc_term.specs.declared.signature.Signature.{Signature}
use Rattle.uc_clause.specs.declared.clause.Sourced.{Sourced}
use Rattle.uc_check.specs.Clauses.{equation_of, axioms_of, goals_of}
use Rattle.uc_problem.specs.declared.problem.Problem.{Problem}
use Rattle.uc_problem.specs.declared.problem.Encoded.{Encoded}
use Rattle.uc_problem.specs.declared.problem.Source.TheVariants as source
use Rattle.uc_problem.specs.declared.fault.EncodeFault.{EncodeFault}
use Rattle.uc_problem.specs.Marks.{Marks, is_open_goal}

-- a goal without a variable
abbrev pub is_ground_goal : Sourced → Bool
is_ground_goal s = if s.clause.positive then false else if is_open_goal s then false else true

-- the equations of the clauses that are so, in order
abbrev pub equations_where : (Sourced → Bool) → List Sourced → List Equation
equations_where is [] = []
equations_where is (s ∷ ss) = if is s then equation_of s.clause ∷ equations_where is ss else equations_where is ss

-- the numbers of the clauses that are so, where the first has this number
abbrev pub numbers_where : (Sourced → Bool) → ℕ → List Sourced → List ℕ
numbers_where is n [] = []
numbers_where is n (s ∷ ss) = if is s then n ∷ numbers_where is (n + 1) ss else numbers_where is (n + 1) ss

-- true = false
abbrev pub last_goal : Fresh → Equation
last_goal marks = record { left = yes_term marks; right = no_term marks }

-- the signature with the encoding's symbols behind it
abbrev pub signature_with : Fresh → Signature → Signature
signature_with marks signature = record { symbols = signature.symbols ++ marks.yes ∷ marks.no ∷ marks.eq ∷ []; least = signature.least; least_is_fresh = signature.least_is_fresh }

-- The problem with these symbols for its goals with a variable: they are axioms behind eq(X,X) = true, and the goals are those
-- without a variable and at last true = false. Or the problem as it is, where none of its goals has a variable.
abbrev pub encoding_of : Problem → Option Fresh → Encoded
encoding_of problem None = record {
  axioms = axioms_of problem.clauses;
  sources = map source.Clause problem.axioms;
  goals = goals_of problem.clauses;
  goal_clauses = map Some problem.goals;
  fresh = None;
  signature = problem.signature;
}
encoding_of problem (Some marks) = record {
  axioms = encoded marks (axioms_of problem.clauses) (equations_where is_open_goal problem.clauses);
  sources = map source.Clause problem.axioms ++ source.Reflexive ∷ map source.Goal (numbers_where is_open_goal 0 problem.clauses);
  goals = equations_where is_ground_goal problem.clauses ++ last_goal marks ∷ [];
  goal_clauses = map Some (numbers_where is_ground_goal 0 problem.clauses) ++ None ∷ [];
  fresh = Some marks;
  signature = signature_with marks problem.signature;
}

-- A problem's encoding, or why it has none: by the symbols of the encoding, or the goal that is too large.
abbrev pub Encodes : Table → Problem → Result Encoded EncodeFault → Type 0
Encodes table problem (Ok answer) = Marks table problem (Ok answer.fresh) × (answer ≡ encoding_of problem answer.fresh)
Encodes table problem (Err why) = Marks table problem (Err why)

-- in this table and in each that it grows into
abbrev pub IsEncoded : Table → Problem → Result Encoded EncodeFault → Type 0
IsEncoded table problem answer = (T : Table) → Grows table T → Encodes T problem answer
