-- How a run of `table` ends, and what its answers promise.
use Rattle.std.specs.Prelude.{ℕ, ◌≡◌, List, [], ◌∷◌, codes, Option, Some, None, Ok, Err}
use Rattle.uc_term.specs.Table.{Table as SymbolTable, IsDistinct}
use Rattle.uc_term.specs.Conversion.{SomeFollows}
use Rattle.uc_edge.specs.Files.{Files}
use Rattle.uc_check.specs.Clauses.{axioms_of, goals_of}
use Rattle.uc_problem.specs.declared.problem.Problem.{Problem}
use Rattle.uc_problem.specs.Loading.{held}
use Rattle.uc_table.specs.declared.table.Table.{Table}
use Rattle.uc_table.specs.declared.answers.Tabled.{Tabled}
use Rattle.uc_table.specs.declared.fault.TableFault.{TableFault}
use Rattle.uc_table.specs.Reading.{table_of}
use Rattle.uc_table.specs.Models.{IsModel}
use Rattle.uc_table.specs.Checks.{Checks}
use Rattle.uc_words.specs.declared.command.Command.{Command}
use Rattle.uc_words.specs.declared.command.Verb.TheVariants as verb
use Rattle.uc_words.specs.Reads.{Reads}
use Rattle.uc_answer.specs.Lines.{about_file}
use Rattle.uc_answer.specs.TableLines.{tabled_line, tabled_status, table_fault_line}
use Rattle.uc_top.specs.Loaded.{IsLoaded}
use Rattle.uc_top.specs.Runs.{EndsWith}

-- These files have a problem under this name, and under the other a table that is a model of it. So none of its goals follows from
-- its axioms.
pub record HasModel (files : Files) (root : Option (List ℕ)) (name file : List ℕ) : Type 0 where
  pub symbols : SymbolTable
  pub distinct : IsDistinct symbols
  pub problem : Problem
  pub is_loaded : IsLoaded files root name symbols problem
  pub text : List ℕ
  pub has_text : held files file ≡ Some text
  pub table : Table
  pub reads : table_of symbols problem.signature.symbols text ≡ Ok table
  pub is_model : IsModel table problem.clauses
  pub none_follows : SomeFollows (axioms_of problem.clauses) (goals_of problem.clauses) → ⊥

-- Where the words are those of `table` and the status is 0, the files have such a problem and such a table.
abbrev pub KeepsTableWord : Files → List (List ℕ) → ℕ → Type 0
KeepsTableWord files words result = (command : Command) (name file : List ℕ) → Reads words command → command.verb ≡ verb.Table → command.positionals ≡ name ∷ file ∷ [] → result ≡ 0 → HasModel files command.root name file

-- How `table` ends for a problem and the table file of this name. The symbols are those of the table that loading the problem leaves.
pub record TableCompletes (files : Files) (symbols : SymbolTable) (problem : Problem) (file : List ℕ) (old new : Option (List ℕ)) (result : ℕ) : Type 0 where
  -- there is no such file
  pub absent : held files file ≡ None → EndsWith 3 (about_file file (codes "Absent")) old new result
  -- its text isn't read as a table of the problem's symbols
  pub unread : (text : List ℕ) (why : TableFault) → held files file ≡ Some text → table_of symbols problem.signature.symbols text ≡ Err why → EndsWith 3 (table_fault_line file why) old new result
  -- it is read as a table, which is so to the problem
  pub read : (text : List ℕ) (table : Table) (answer : Tabled) → held files file ≡ Some text → table_of symbols problem.signature.symbols text ≡ Ok table → Checks table problem.clauses answer → EndsWith (tabled_status answer) (tabled_line answer) old new result

-- Where the words are those of `table` and the files hold the problem, `table` ends so.
abbrev pub CompletesTable : Files → List (List ℕ) → Option (List ℕ) → Option (List ℕ) → ℕ → Type 0
CompletesTable files words old new result = (command : Command) (name file : List ℕ) (symbols : SymbolTable) (problem : Problem) → Reads words command → command.verb ≡ verb.Table → command.positionals ≡ name ∷ file ∷ [] → IsDistinct symbols → IsLoaded files command.root name symbols problem → TableCompletes files symbols problem file old new result
