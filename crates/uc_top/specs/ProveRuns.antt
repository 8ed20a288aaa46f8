-- How a run of `prove` ends, and what its answers promise.
use Rattle.std.specs.Prelude.{ℕ, ◌≡◌, ◌≤◌, List, [], ◌∷◌, ◌++◌, Option, Ok}
use Rattle.std.specs.Io.KnownBytes.{Appends}
use Rattle.uc_term.specs.Table.{Table, IsDistinct}
use Rattle.uc_edge.specs.Files.{Files}
use Rattle.uc_problem.specs.declared.problem.Problem.{Problem}
use Rattle.uc_problem.specs.declared.problem.Encoded.{Encoded}
use Rattle.uc_problem.specs.Holds.{Holds}
use Rattle.uc_problem.specs.Filling.{IsFilled, AddsMarks}
use Rattle.uc_problem.specs.Encodes.{Encodes}
use Rattle.uc_order.specs.declared.spec.OrderSpec.{OrderSpec}
use Rattle.uc_machine.specs.declared.event.Verdict.{Verdict}
use Rattle.uc_machine.specs.State.{State}
use Rattle.uc_worker.specs.Ends.{IsSearchedBy}
use Rattle.uc_words.specs.declared.command.Command.{Command}
use Rattle.uc_words.specs.declared.command.Verb.TheVariants.{Prove}
use Rattle.uc_words.specs.Reads.{Reads}
use Rattle.uc_ordering.specs.Choice.{IsChosen}
use Rattle.uc_ordering.specs.Meaning.{meaning_of}
use Rattle.uc_answer.specs.Lines.{memory_line}
use Rattle.uc_answer.specs.VerdictLines.{opening_for, verdict_status, VerdictAnswers, trace_if}
use Rattle.uc_answer.specs.Promises.{Keeps}
use Rattle.uc_top.specs.Loaded.{IsLoaded}

-- so it is for the problem of this name that the files have, with its symbols in this table; loading leaves the other one
pub record IsKept (table : Table) (files : Files) (command : Command) (name : List ℕ) (status : ℕ) (answer : List ℕ) : Type 0 where
  pub problem : Problem
  pub holds : Holds table files command.root name problem
  pub keeps : Keeps table command name problem status answer
  pub loaded : Table
  pub filled : IsFilled files command.root name [] loaded problem

-- and this table, whose entries are all different, the encoding's symbols make of the one that loading leaves
pub record KeepsPromise (files : Files) (command : Command) (name : List ℕ) (status : ℕ) (answer : List ℕ) : Type 0 where
  pub table : Table
  pub distinct : IsDistinct table
  pub is_kept : IsKept table files command name status answer
  pub adds : AddsMarks is_kept.loaded table is_kept.keeps.fresh

-- So it is where the command is `prove`.
abbrev pub KeepsCommand : Files → Command → ℕ → List ℕ → Type 0
KeepsCommand files command status answer = (name : List ℕ) → command.positionals ≡ name ∷ [] → KeepsPromise files command name status answer

-- So it is of a run whose words are those of `prove`, and that ends with status 0, 1 or 2: the sink was given such an answer.
abbrev pub KeepsWord : Files → List (List ℕ) → Option (List ℕ) → Option (List ℕ) → ℕ → Type 0
KeepsWord files words old new result = (command : Command) (name : List ℕ) → Reads words command → command.verb ≡ Prove → command.positionals ≡ name ∷ [] → result ≤ 2 → (answer : List ℕ) × KeepsPromise files command name result answer × Appends old new answer

-- COMPLETENESS

-- The status and the answer are those of a search by the command's workers, for the problem of this name that the files have and the
-- order that the words name for it, with the symbols in the table that loading and encoding it leave, whose entries are all
-- different.
pub record IsHeldAnswer (files : Files) (command : Command) (name : List ℕ) (status : ℕ) (answer : List ℕ) : Type 0 where
  pub table : Table
  pub distinct : IsDistinct table
  pub loaded : Table
  pub problem : Problem
  pub filled : IsFilled files command.root name [] loaded problem
  pub holds : Holds table files command.root name problem
  pub encoded : Encoded
  pub adds : AddsMarks loaded table encoded.fresh
  pub encodes : Encodes table problem (Ok encoded)
  pub spec : OrderSpec
  pub chosen : IsChosen table problem.signature command.order encoded.fresh spec
  pub verdict : Verdict
  pub state : State
  pub searched : IsSearchedBy (meaning_of table spec) (opening_for command encoded) command.workers verdict state
  pub text : List ℕ
  pub answers : VerdictAnswers table command name problem encoded spec state verdict text
  pub status_is : status ≡ verdict_status verdict
  pub answer_is : answer ≡ text ++ trace_if command state

-- How `prove` ends: with this answer, or for want of memory, which is free.
pub data ProveEnds (files : Files) (command : Command) (name : List ℕ) (old new : Option (List ℕ)) : ℕ → Type 0 where
  tells_verdict : {status : ℕ} {answer : List ℕ} → IsHeldAnswer files command name status answer → Appends old new answer → ProveEnds files command name old new status
  lacks_memory : Appends old new memory_line → ProveEnds files command name old new 7

-- Where the words of `prove` name an order for a problem that the files hold, none of whose goals is too large to be encoded, `prove`
-- ends so: with a proof, a system, with its certificate where one is asked for, or a limit. The problem's symbols stand in the table that loading and encoding it leave.
abbrev pub CompletesProve : Files → List (List ℕ) → Option (List ℕ) → Option (List ℕ) → ℕ → Type 0
CompletesProve files words old new result = (command : Command) (name : List ℕ) (loaded table : Table) (problem : Problem) (encoded : Encoded) (spec : OrderSpec) → Reads words command → command.verb ≡ Prove → command.positionals ≡ name ∷ [] → IsDistinct table → IsLoaded files command.root name loaded problem → AddsMarks loaded table encoded.fresh → Encodes table problem (Ok encoded) → IsChosen table problem.signature command.order encoded.fresh spec → ProveEnds files command name old new result
