-- What the program answers where a fetch fails.
use Rattle.std.specs.Prelude.{ℕ, ◌≤◌, List, [], ◌∷◌, ◌++◌, codes, Option, Some, None, Result, Ok, Err}
use Rattle.uc_edge.specs.Faults.{IsCounted}
use Rattle.uc_words.specs.declared.command.Command.{Command}
use Rattle.uc_words.specs.declared.command.Verb.{Verb}
use Rattle.uc_words.specs.declared.command.Verb.TheVariants as verb
use Rattle.uc_answer.specs.declared.answer.Answer.{Answer}
use Rattle.uc_top.specs.declared.output.WholeAnswer.{WholeAnswer}
use Rattle.uc_answer.specs.Lines.{joined, about_file}
use Rattle.uc_answer.specs.StatusLines.{status_line}

-- the line before that of a failed fetch, where the problem file has this name
abbrev pub input_error : List ℕ → List ℕ
input_error name = status_line (codes "InputError") name

-- the same for a command: `prove` alone has such a line
abbrev pub opening_of : Verb → List (List ℕ) → List ℕ
opening_of verb.Prove (name ∷ names) = input_error name
opening_of other names = []

abbrev pub fault_opening : Command → List ℕ
fault_opening command = opening_of command.verb command.positionals

-- the text that answers a command where the fetch of this file fails
abbrev pub fault_text : Command → List ℕ → List ℕ
fault_text command file = fault_opening command ++ about_file file (codes "ReadFault")

-- The library's count of faults was and is this, and the names at which it had and has failed are these.
module _ (before now : ℕ) (old new : List (List ℕ)) where
  -- No fetch failed; or that of this file did and no other, and the answer has status 5 and names it, behind this text.
  pub data TellsFault (opening : List ℕ) : ℕ → List ℕ → Type 0 where
    no_fetch_failed : {status : ℕ} {text : List ℕ} → IsCounted None before now old new → TellsFault opening status text
    one_fetch_failed : (file : List ℕ) → IsCounted (Some file) before now old new → TellsFault opening 5 (opening ++ about_file file (codes "ReadFault"))

  -- such an answer, or want of memory, which comes either way
  abbrev pub AnswersFault : {E : Type 0} → List ℕ → Result Answer E → Type 0
  AnswersFault opening (Ok answer) = TellsFault opening answer.status (joined answer.lines)
  AnswersFault opening (Err e) = (file : Option (List ℕ)) × IsCounted file before now old new

  -- of its status alone
  pub data HasFaultStatus : ℕ → Type 0 where
    keeps_status : {status : ℕ} → IsCounted None before now old new → HasFaultStatus status
    has_fault_status : (file : List ℕ) → IsCounted (Some file) before now old new → HasFaultStatus 5

  abbrev pub IsStatusFaulted : {E : Type 0} → Result Answer E → Type 0
  IsStatusFaulted (Ok answer) = HasFaultStatus answer.status
  IsStatusFaulted (Err e) = (file : Option (List ℕ)) × IsCounted file before now old new

  abbrev pub IsWholeFaulted : {E : Type 0} → Result WholeAnswer E → Type 0
  IsWholeFaulted (Ok answer) = HasFaultStatus answer.status
  IsWholeFaulted (Err e) = (file : Option (List ℕ)) × IsCounted file before now old new

  -- How a run ends: no fetch failed; or one did and no other, and the status is 5, or 6 or 7, where its line wasn't written.
  pub data IsFaultedRun : ℕ → Type 0 where
    no_fetch_fails : {result : ℕ} → IsCounted None before now old new → IsFaultedRun result
    one_fetch_fails : (file : List ℕ) {result : ℕ} → IsCounted (Some file) before now old new → 5 ≤ result → result ≤ 7 → IsFaultedRun result
