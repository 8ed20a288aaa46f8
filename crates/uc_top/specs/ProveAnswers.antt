-- What `prove` answers for a problem.
use Rattle.std.specs.Prelude.{ℕ, ◌≡◌, List, [], ◌++◌, codes, slice_get, Option, Some, Ok, Err}
use Rattle.uc_term.specs.Table.{Table, IsDistinct}
use Rattle.uc_edge.specs.Files.{Files}
use Rattle.uc_edge.specs.Faults.{Rose}
use Rattle.uc_clause.specs.declared.clause.Sourced.{Sourced}
use Rattle.uc_problem.specs.declared.fault.LoadFault.{LoadFault}
use Rattle.uc_problem.specs.declared.fault.LoadFault.TheVariants as load
use Rattle.uc_problem.specs.declared.fault.EncodeFault.TheVariants.{GoalTooLarge}
use Rattle.uc_problem.specs.declared.problem.Problem.{Problem}
use Rattle.uc_problem.specs.declared.problem.Encoded.{Encoded}
use Rattle.uc_problem.specs.Holds.{Holds}
use Rattle.uc_problem.specs.Refusing.{Stops, IsRefused}
use Rattle.uc_problem.specs.Encodes.{Encodes}
use Rattle.uc_problem.specs.Filling.{WhereTold, AddsMarks}
use Rattle.uc_order.specs.declared.spec.OrderSpec.{OrderSpec}
use Rattle.uc_machine.specs.declared.event.Verdict.{Verdict}
use Rattle.uc_machine.specs.State.{State}
use Rattle.uc_worker.specs.Ends.{IsSearchedBy}
use Rattle.uc_words.specs.declared.command.Command.{Command}
use Rattle.uc_ordering.specs.declared.fault.ChoiceFault.{ChoiceFault}
use Rattle.uc_ordering.specs.declared.fault.ChoiceFault.TheVariants.{NoMemory}
use Rattle.uc_ordering.specs.Choice.{IsChosen, IsChoiceFault}
use Rattle.uc_ordering.specs.Meaning.{meaning_of}
use Rattle.uc_answer.specs.Lines.{about_file, load_line}
use Rattle.uc_answer.specs.ChoiceLines.{choice_line}
use Rattle.uc_answer.specs.Refusals.{load_status, large_line}
use Rattle.uc_answer.specs.StatusLines.{status_line, unloaded_word}
use Rattle.uc_answer.specs.VerdictLines.{VerdictAnswers, opening_for, trace_if, verdict_status}
use Rattle.uc_top.specs.Loaded.{IsLoaded}

-- Symbols are those of this table, and the problem file has this name.
module _ (table : Table) (command : Command) (name : List ℕ) where
  -- A goal is too large to be encoded; or the order is refused; or the command's workers search by the order that the words and
  -- the defaults name for the encoded problem, and the answer is that for their book's verdict. Where no goal is too large,
  -- encoding makes the table of the one that loading left.
  pub data IsProveAnswer (loaded : Table) (problem : Problem) : ℕ → List ℕ → Type 0 where
    has_large_goal : {number : ℕ} {goal : Sourced} → Encodes table problem (Err (GoalTooLarge number)) → slice_get problem.clauses number ≡ Some goal → IsProveAnswer loaded problem 3 (status_line (codes "InputError") name ++ large_line goal)
    is_unordered : {encoded : Encoded} {why : ChoiceFault} → AddsMarks loaded table encoded.fresh → Encodes table problem (Ok encoded) → IsChoiceFault table problem.signature command.order why → (why ≡ NoMemory → ⊥) → IsProveAnswer loaded problem 4 (choice_line why)
    is_searched : {encoded : Encoded} {spec : OrderSpec} {v : Verdict} {s : State} {text : List ℕ} → AddsMarks loaded table encoded.fresh → Encodes table problem (Ok encoded) → IsChosen table problem.signature command.order encoded.fresh spec → IsSearchedBy (meaning_of table spec) (opening_for command encoded) command.workers v s → VerdictAnswers table command name problem encoded spec s v text → IsProveAnswer loaded problem (verdict_status v) (text ++ trace_if command s)

-- The library's files are these, where it tells them, and its count of faults was and is this.
module _ (command : Command) (name : List ℕ) (holds : Option Files) (before now : ℕ) where
  -- A refusal of the problem file has a status line before its own. Encoding makes a table of the one that loading leaves.
  pub data ProveAnswers : ℕ → List ℕ → Type 0 where
    fetch_fails : (file : List ℕ) → Rose before now → WhereTold holds (λ files. Stops files (Some file) command.root name (load.ReadFault file)) → ProveAnswers 5 (status_line (codes "InputError") name ++ about_file file (codes "ReadFault"))
    is_refused : (why : LoadFault) → WhereTold holds (λ files. IsRefused files command.root name [] why) → load_status why ≡ 3 → ProveAnswers 3 (status_line (unloaded_word why) name ++ load_line why)
    is_loaded : {loaded table : Table} {problem : Problem} {status : ℕ} {answer : List ℕ} → IsDistinct loaded → WhereTold holds (λ files. IsLoaded files command.root name loaded problem) → IsDistinct table → WhereTold holds (λ files. Holds table files command.root name problem) → IsProveAnswer table command name loaded problem status answer → ProveAnswers status answer
