-- The status lines of `prove`, `decide` and `model`.
use Rattle.std.specs.Prelude.{ℕ, Bool, true, false, List, ◌++◌, codes, cond}
use Rattle.std.specs.Option.{is_some}
use Rattle.uc_clause.specs.declared.fault.ClauseFault.TheVariants as clause
use Rattle.uc_problem.specs.declared.fault.LoadFault.{LoadFault}
use Rattle.uc_problem.specs.declared.fault.LoadFault.TheVariants as load
use Rattle.uc_problem.specs.declared.problem.Problem.{Problem}

-- a line that ends with the name of the problem
abbrev pub line_for : List ℕ → List ℕ → List ℕ
line_for words name = words ++ codes " for " ++ name ++ codes "\n"

abbrev pub status_line : List ℕ → List ℕ → List ℕ
status_line word name = line_for (codes "% SZS status " ++ word) name

-- the word for a problem of which a goal follows: its conjecture is a theorem, or without one its clauses can't all hold
abbrev pub proved_word : Problem → List ℕ
proved_word problem = cond (is_some problem.conjecture) (codes "Theorem") (codes "Unsatisfiable")

-- the word for a problem of which no goal follows: its conjecture is no theorem, or without one its clauses can all hold
abbrev pub saturated_word : Problem → List ℕ
saturated_word problem = cond (is_some problem.conjecture) (codes "CounterSatisfiable") (codes "Satisfiable")

-- the text of a file is no list of clauses
abbrev pub is_syntax : LoadFault → Bool
is_syntax (load.Clause file (clause.Syntax place)) = true
is_syntax other = false

-- the word for a problem that isn't loaded
abbrev pub unloaded_word : LoadFault → List ℕ
unloaded_word why = cond (is_syntax why) (codes "SyntaxError") (codes "InputError")
