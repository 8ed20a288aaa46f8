-- How a run of `model` ends, and what its answers promise.
use Rattle.std.specs.Prelude.{ℕ, ◌≡◌, List, [], ◌∷◌, ◌++◌, Option}
use Rattle.std.specs.Io.KnownBytes.{Appends}
use Rattle.uc_term.specs.Table.{Table as SymbolTable, IsDistinct}
use Rattle.uc_term.specs.Conversion.{SomeFollows}
use Rattle.uc_edge.specs.Files.{Files}
use Rattle.uc_check.specs.Clauses.{axioms_of, goals_of}
use Rattle.uc_problem.specs.declared.problem.Problem.{Problem}
use Rattle.uc_table.specs.declared.table.Table.{Table}
use Rattle.uc_table.specs.declared.answers.Searched.{Searched}
use Rattle.uc_table.specs.Printing.{table_text}
use Rattle.uc_table.specs.Least.{IsLeastModel, HasNone}
use Rattle.uc_table.specs.Searching.{Searches}
use Rattle.uc_words.specs.declared.command.Command.{Command}
use Rattle.uc_words.specs.declared.command.Verb.TheVariants as verb
use Rattle.uc_words.specs.Reads.{Reads}
use Rattle.uc_answer.specs.Lines.{memory_line}
use Rattle.uc_answer.specs.StatusLines.{status_line, saturated_word}
use Rattle.uc_answer.specs.ModelLines.{searched_status, searched_lines}
use Rattle.uc_top.specs.Loaded.{IsLoaded}

-- These files have a problem under this name, and a table up to this size is a model of it, while none of a smaller size is one; the
-- text is its table text behind the status line. So none of the problem's goals follows from its axioms.
pub record FindsModel (files : Files) (root : Option (List ℕ)) (name : List ℕ) (size : ℕ) (text : List ℕ) : Type 0 where
  pub symbols : SymbolTable
  pub distinct : IsDistinct symbols
  pub problem : Problem
  pub is_loaded : IsLoaded files root name symbols problem
  pub table : Table
  pub is_least : IsLeastModel symbols problem.signature.symbols problem.clauses size table
  pub none_follows : SomeFollows (axioms_of problem.clauses) (goals_of problem.clauses) → ⊥
  pub text_is : text ≡ status_line (saturated_word problem) name ++ table_text symbols table

-- These files have a problem under this name, and no table up to this size is a model of it.
pub record LacksModel (files : Files) (root : Option (List ℕ)) (name : List ℕ) (size : ℕ) : Type 0 where
  pub symbols : SymbolTable
  pub distinct : IsDistinct symbols
  pub problem : Problem
  pub is_loaded : IsLoaded files root name symbols problem
  pub has_none : HasNone symbols problem.signature.symbols problem.clauses size

-- Status 0 comes with such a model, whose text is told, and status 1 where there is none.
pub record KeepsModel (files : Files) (command : Command) (name : List ℕ) (old new : Option (List ℕ)) (result : ℕ) : Type 0 where
  pub found : result ≡ 0 → (text : List ℕ) × FindsModel files command.root name command.size text × Appends old new text
  pub none : result ≡ 1 → LacksModel files command.root name command.size

-- So it is where the words are those of `model`.
abbrev pub KeepsModelWord : Files → List (List ℕ) → Option (List ℕ) → Option (List ℕ) → ℕ → Type 0
KeepsModelWord files words old new result = (command : Command) (name : List ℕ) → Reads words command → command.verb ≡ verb.Model → command.positionals ≡ name ∷ [] → KeepsModel files command name old new result

-- How `model` ends for a problem: with what the search comes to, or for want of memory, which is free. The symbols are those of the
-- table that loading the problem leaves.
pub data ModelEnds (symbols : SymbolTable) (command : Command) (name : List ℕ) (problem : Problem) (old new : Option (List ℕ)) : ℕ → Type 0 where
  tells_searched : {answer : Searched} → Searches symbols problem.signature.symbols problem.clauses command.budget command.size answer → Appends old new (searched_lines symbols problem name command.size command.budget answer) → ModelEnds symbols command name problem old new (searched_status answer)
  lacks_memory : Appends old new memory_line → ModelEnds symbols command name problem old new 7

-- Where the words are those of `model` and the files hold the problem, `model` ends so.
abbrev pub CompletesModel : Files → List (List ℕ) → Option (List ℕ) → Option (List ℕ) → ℕ → Type 0
CompletesModel files words old new result = (command : Command) (name : List ℕ) (symbols : SymbolTable) (problem : Problem) → Reads words command → command.verb ≡ verb.Model → command.positionals ≡ name ∷ [] → IsDistinct symbols → IsLoaded files command.root name symbols problem → ModelEnds symbols command name problem old new result
