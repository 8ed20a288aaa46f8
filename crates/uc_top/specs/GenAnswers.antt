-- What `gen` answers.
use Rattle.std.specs.Prelude.{ℕ, ◌≡◌, ◌≤◌, List, [], ◌∷◌, ◌++◌, codes, Some, None}
use Rattle.uc_term.specs.Table.{Table, IsDistinct}
use Rattle.uc_problem.specs.declared.problem.Problem.{Problem}
use Rattle.uc_order.specs.declared.spec.OrderSpec.{OrderSpec}
use Rattle.uc_fact.specs.Live.{equations_of}
use Rattle.uc_shelf.specs.Entries.{live}
use Rattle.uc_machine.specs.declared.event.Verdict.{Verdict}
use Rattle.uc_machine.specs.declared.event.Verdict.TheVariants.{Saturated}
use Rattle.uc_machine.specs.State.{State}
use Rattle.uc_worker.specs.Ends.{IsSearchedBy}
use Rattle.uc_words.specs.declared.command.Command.{Command}
use Rattle.uc_words.specs.Number.{number_of}
use Rattle.uc_ordering.specs.Choice.{IsChosen}
use Rattle.uc_ordering.specs.Meaning.{meaning_of}
use Rattle.uc_gen.specs.Generated.{IsGenerated, with_symbols}
use Rattle.uc_gen.specs.Options.{no_options}
use Rattle.uc_gen.specs.Counting.{constant_terms, HasForms}
use Rattle.uc_answer.specs.StatusLines.{status_line}
use Rattle.uc_answer.specs.LimitLines.{IsLimitLine}
use Rattle.uc_top.specs.GenLines.{gen_lines}
use Rattle.uc_top.specs.DecideAnswers.{opening_of_axioms}

-- the name of a generated problem in its answers
abbrev pub gen_name : List ℕ
gen_name = codes "gen"

-- The problem of so many constants, from 1 to 2,000, and of the sequence with this start, by the symbols of a table that has no others;
-- and the order that stands where no option names another.
pub record IsPosed (n start : ℕ) (table : Table) (problem : Problem) (spec : OrderSpec) : Type 0 where
  pub some : 1 ≤ n
  pub most : n ≤ 2000
  pub distinct : IsDistinct table
  pub table_is : table ≡ with_symbols [] n
  pub generated : IsGenerated table n start problem
  pub chosen : IsChosen table problem.signature no_options None spec

-- The command's workers search from the axioms of the generated problem. Where their system is saturated, it is told how many constants
-- and axioms there are, and how many different normal forms the constants have by the facts that live; else a limit ended the search.
pub data IsCompleted (command : Command) (n start : ℕ) : ℕ → List ℕ → Type 0 where
  is_counted : {table : Table} {problem : Problem} {spec : OrderSpec} {s : State} {forms : ℕ} (posed : IsPosed n start table problem spec) → IsSearchedBy (meaning_of table spec) (opening_of_axioms command problem) command.workers Saturated s → HasForms (meaning_of table spec) (equations_of (live s.entries)) (constant_terms posed.generated.constants) forms → IsCompleted command n start 0 (gen_lines n n forms)
  is_out : {table : Table} {problem : Problem} {spec : OrderSpec} {v : Verdict} {s : State} {line : List ℕ} → IsPosed n start table problem spec → IsSearchedBy (meaning_of table spec) (opening_of_axioms command problem) command.workers v s → IsLimitLine command s v line → IsCompleted command n start 2 (status_line (codes "ResourceOut") gen_name ++ line)

-- the command's two words are the number of constants and the start of the sequence
pub record AreNumbers (command : Command) (n start : ℕ) : Type 0 where
  pub count : List ℕ
  pub from : List ℕ
  pub words : command.positionals ≡ count ∷ from ∷ []
  pub count_is : number_of count ≡ Some n
  pub from_is : number_of from ≡ Some start

-- the answer to `gen`
pub record GenAnswers (command : Command) (status : ℕ) (answer : List ℕ) : Type 0 where
  pub n : ℕ
  pub start : ℕ
  pub numbers : AreNumbers command n start
  pub completed : IsCompleted command n start status answer
