-- How a run of `gen` ends, and what its answers promise.
use Rattle.std.specs.Prelude.{ℕ, ◌≡◌, List, [], ◌++◌, codes, Option}
use Rattle.std.specs.Io.KnownBytes.{Appends}
use Rattle.uc_term.specs.Table.{Table, IsDistinct}
use Rattle.uc_term.specs.Conversion.{Conv}
use Rattle.uc_check.specs.Clauses.{axioms_of}
use Rattle.uc_problem.specs.declared.problem.Problem.{Problem}
use Rattle.uc_order.specs.declared.spec.OrderSpec.{OrderSpec}
use Rattle.uc_machine.specs.declared.event.Verdict.{Verdict}
use Rattle.uc_machine.specs.State.{State}
use Rattle.uc_runs.specs.Causes.{Causes}
use Rattle.uc_worker.specs.Ends.{IsSearchedBy}
use Rattle.uc_words.specs.declared.command.Command.{Command}
use Rattle.uc_words.specs.declared.command.Verb.TheVariants as verb
use Rattle.uc_words.specs.Reads.{Reads}
use Rattle.uc_ordering.specs.Meaning.{meaning_of}
use Rattle.uc_gen.specs.Generated.{IsGenerated, with_symbols}
use Rattle.uc_gen.specs.Counting.{constant_terms, HasClasses}
use Rattle.uc_answer.specs.Lines.{memory_line}
use Rattle.uc_answer.specs.StatusLines.{status_line}
use Rattle.uc_answer.specs.LimitLines.{IsLimitLine}
use Rattle.uc_top.specs.GenLines.{gen_lines}
use Rattle.uc_top.specs.DecideAnswers.{opening_of_axioms}
use Rattle.uc_top.specs.GenAnswers.{gen_name, IsPosed, IsCompleted, AreNumbers}

-- THE PROMISE

-- The answer tells how many classes there are of the constants of the generated problem, by what its axioms make equal.
pub record CountsClasses (n start : ℕ) (answer : List ℕ) : Type 0 where
  pub table : Table
  pub distinct : IsDistinct table
  pub table_is : table ≡ with_symbols [] n
  pub problem : Problem
  pub generated : IsGenerated table n start problem
  pub classes : ℕ
  pub are_classes : HasClasses (Conv (axioms_of problem.clauses)) (constant_terms generated.constants) classes
  pub answer_is : answer ≡ gen_lines n n classes

-- The answer names the limit that ended the search. The verdict came in a state of the run that has its cause.
pub record NamesLimit (command : Command) (n start : ℕ) (answer : List ℕ) : Type 0 where
  pub table : Table
  pub problem : Problem
  pub spec : OrderSpec
  pub posed : IsPosed n start table problem spec
  pub verdict : Verdict
  pub state : State
  pub searched : IsSearchedBy (meaning_of table spec) (opening_of_axioms command problem) command.workers verdict state
  pub cause : Causes (meaning_of table spec) (opening_of_axioms command problem) searched.ended.came.then_ verdict
  pub line : List ℕ
  pub line_is : IsLimitLine command state verdict line
  pub answer_is : answer ≡ status_line (codes "ResourceOut") gen_name ++ line

-- With status 0 such a number of classes is told, and with status 2 such a limit.
pub record KeepsGen (command : Command) (n start : ℕ) (old new : Option (List ℕ)) (result : ℕ) : Type 0 where
  pub counted : result ≡ 0 → (answer : List ℕ) × CountsClasses n start answer × Appends old new answer
  pub out : result ≡ 2 → (answer : List ℕ) × NamesLimit command n start answer × Appends old new answer

-- So it is where the words are those of `gen`.
abbrev pub KeepsGenWord : List (List ℕ) → Option (List ℕ) → Option (List ℕ) → ℕ → Type 0
KeepsGenWord words old new result = (command : Command) (n start : ℕ) → Reads words command → command.verb ≡ verb.Gen → AreNumbers command n start → KeepsGen command n start old new result

-- COMPLETENESS

-- How `gen` ends: with the number of normal forms by the saturated system, or with a limit, each as it is said of the search; or for want
-- of memory, which is free.
pub data GenEnds (command : Command) (n start : ℕ) (old new : Option (List ℕ)) : ℕ → Type 0 where
  tells_completed : {status : ℕ} {answer : List ℕ} → IsCompleted command n start status answer → Appends old new answer → GenEnds command n start old new status
  lacks_memory : Appends old new memory_line → GenEnds command n start old new 7

-- Where the words are those of `gen`, it ends so.
abbrev pub CompletesGen : List (List ℕ) → Option (List ℕ) → Option (List ℕ) → ℕ → Type 0
CompletesGen words old new result = (command : Command) (n start : ℕ) → Reads words command → command.verb ≡ verb.Gen → AreNumbers command n start → GenEnds command n start old new result
