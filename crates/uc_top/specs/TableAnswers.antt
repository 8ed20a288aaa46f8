-- What `table` answers for a problem and the text of a table file.
use Rattle.std.specs.Prelude.{ℕ, ◌≡◌, List, Ok, Err}
use Rattle.uc_term.specs.Table.{Table as SymbolTable}
use Rattle.uc_problem.specs.declared.problem.Problem.{Problem}
use Rattle.uc_table.specs.declared.table.Table.{Table}
use Rattle.uc_table.specs.declared.answers.Tabled.{Tabled}
use Rattle.uc_table.specs.declared.fault.TableFault.{TableFault}
use Rattle.uc_table.specs.Reading.{table_of}
use Rattle.uc_table.specs.Checks.{Checks}
use Rattle.uc_answer.specs.TableLines.{tabled_line, tabled_status, table_fault_line}

-- The file of this name has this text: it isn't read as a table of the problem's symbols, or what the table is to the problem is told.
-- The symbols are those of the table that loading the problem leaves.
pub data TableTextAnswers (symbols : SymbolTable) (problem : Problem) (file text : List ℕ) : ℕ → List ℕ → Type 0 where
  isnt_table : {why : TableFault} → table_of symbols problem.signature.symbols text ≡ Err why → TableTextAnswers symbols problem file text 3 (table_fault_line file why)
  is_table : {table : Table} {answer : Tabled} → table_of symbols problem.signature.symbols text ≡ Ok table → Checks table problem.clauses answer → TableTextAnswers symbols problem file text (tabled_status answer) (tabled_line answer)
