-- The lines of a search for a finite table that is a model of a problem.
use Rattle.std.specs.Prelude.{ℕ, List, ◌++◌, codes, decimal}
use Rattle.uc_term.specs.Table.{Table as SymbolTable}
use Rattle.uc_table.specs.declared.answers.Searched.{Searched}
use Rattle.uc_table.specs.declared.answers.Searched.TheVariants.{Found, Absent, Spent, Cells, Assignments}
use Rattle.uc_table.specs.Printing.{table_text}
use Rattle.uc_problem.specs.declared.problem.Problem.{Problem}
use Rattle.uc_answer.specs.StatusLines.{status_line, saturated_word}
use Rattle.uc_answer.specs.LimitLines.{budget_line}

abbrev pub searched_status : Searched → ℕ
searched_status (Found table) = 0
searched_status Absent = 1
searched_status other = 2

-- no table up to this size is a model
abbrev pub none_line : ℕ → List ℕ
none_line size = codes "% none up to " ++ decimal size ++ codes "\n"

-- the line of the limit that ended a search, behind the status line
abbrev pub stopped_lines : List ℕ → List ℕ → List ℕ
stopped_lines name line = status_line (codes "ResourceOut") name ++ line

-- Symbols are those of this table, the problem is from a file of this name, and the search was for tables up to this size with this
-- budget.
module _ (symbols : SymbolTable) (problem : Problem) (name : List ℕ) (size budget : ℕ) where
  abbrev pub searched_lines : Searched → List ℕ
  searched_lines (Found table) = status_line (saturated_word problem) name ++ table_text symbols table
  searched_lines Absent = none_line size
  searched_lines (Spent visited) = stopped_lines name (budget_line visited budget)
  searched_lines (Cells reached) = stopped_lines name (codes "% cells past 65536\n")
  searched_lines (Assignments reached) = stopped_lines name (codes "% assignments past 16777216\n")
