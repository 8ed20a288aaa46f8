-- What `model` answers for a problem.
use Rattle.std.specs.Prelude.{ℕ, List}
use Rattle.uc_term.specs.Table.{Table as SymbolTable}
use Rattle.uc_problem.specs.declared.problem.Problem.{Problem}
use Rattle.uc_table.specs.declared.answers.Searched.{Searched}
use Rattle.uc_table.specs.Searching.{Searches}
use Rattle.uc_words.specs.declared.command.Command.{Command}
use Rattle.uc_answer.specs.ModelLines.{searched_status, searched_lines}

-- The search goes through the tables of the problem's signature, up to the size and with the budget that the words name, and what it
-- comes to is told. The problem file has this name, and the symbols are those of the table that loading the problem leaves.
pub data IsModelled (symbols : SymbolTable) (command : Command) (name : List ℕ) (problem : Problem) : ℕ → List ℕ → Type 0 where
  is_searched : {answer : Searched} → Searches symbols problem.signature.symbols problem.clauses command.budget command.size answer → IsModelled symbols command name problem (searched_status answer) (searched_lines symbols problem name command.size command.budget answer)
