-- The lines of a verdict of `prove`.
use Rattle.std.specs.Prelude.{ℕ, ◌≡◌, List, [], ◌++◌, codes, cond, slice_get, Some, Ok}
use Rattle.uc_term.specs.Table.{Table}
use Rattle.uc_check.specs.declared.proof.Line.{Line}
use Rattle.uc_tstp.specs.Printing.{proof_text}
use Rattle.uc_problem.specs.declared.problem.Problem.{Problem}
use Rattle.uc_problem.specs.declared.problem.Encoded.{Encoded}
use Rattle.uc_problem.specs.Holds.{Agrees}
use Rattle.uc_problem.specs.Encodes.{Encodes}
use Rattle.uc_order.specs.declared.spec.OrderSpec.{OrderSpec}
use Rattle.uc_fact.specs.Live.{equations_of}
use Rattle.uc_shelf.specs.Entries.{born, live}
use Rattle.uc_machine.specs.declared.event.Verdict.{Verdict}
use Rattle.uc_machine.specs.declared.event.Verdict.TheVariants.{Proved, Saturated}
use Rattle.uc_machine.specs.State.{Opening, State, Target}
use Rattle.uc_worker.specs.Ends.{IsSearchedBy}
use Rattle.uc_worker.specs.Hands.{hands_of}
use Rattle.uc_proof.specs.Extracted.{IsExtracted}
use Rattle.uc_system.specs.Printing.{system_text}
use Rattle.uc_words.specs.declared.command.Command.{Command}
use Rattle.uc_ordering.specs.Choice.{IsChosen}
use Rattle.uc_ordering.specs.Fits.{Fits}
use Rattle.uc_ordering.specs.Meaning.{meaning_of}
use Rattle.uc_answer.specs.TraceLines.{trace_text}
use Rattle.uc_answer.specs.StatusLines.{line_for, status_line, proved_word, saturated_word}
use Rattle.uc_answer.specs.LimitLines.{IsLimitLine}
use Rattle.uc_answer.specs.CertificateLines.{IsCertificateIf}

-- the history with the shares of all hands, where the command asks for it
abbrev pub trace_if : Command → State → List ℕ
trace_if command s = cond command.trace (trace_text (hands_of command.workers) s.history) []

-- what a book is opened with for an encoded problem
abbrev pub opening_for : Command → Encoded → Opening
opening_for command encoded = record { axioms = encoded.axioms; goals = encoded.goals; budget = command.budget; limit = command.pairs }

abbrev pub verdict_status : Verdict → ℕ
verdict_status (Proved goal) = 0
verdict_status Saturated = 1
verdict_status other = 2

-- The command's workers searched for an encoded problem, by an order for its signature, up to this verdict and state. Symbols are
-- those of this table.
pub record HasEnded (table : Table) (command : Command) (problem : Problem) (encoded : Encoded) (spec : OrderSpec) (v : Verdict) (s : State) : Type 0 where
  pub agrees : Agrees table problem
  pub encodes : Encodes table problem (Ok encoded)
  pub chosen : IsChosen table problem.signature command.order encoded.fresh spec
  pub fits : Fits table encoded.signature.symbols spec
  pub searched : IsSearchedBy (meaning_of table spec) (opening_for command encoded) command.workers v s

-- Symbols are those of this table, and the problem file has this name.
module _ (table : Table) (command : Command) (name : List ℕ) where
  module _ (problem : Problem) (encoded : Encoded) (spec : OrderSpec) (s : State) where
    -- the text is that of the proof that the goal's chains and those of the facts determine
    pub record IsProofText (goal : ℕ) (text : List ℕ) : Type 0 where
      pub target : Target
      pub target_is : slice_get s.goals goal ≡ Some target
      pub lines : List Line
      pub files : List (List ℕ)
      pub extracted : IsExtracted problem encoded (born s.entries) target.left target.right goal lines files
      pub text_is : text ≡ proof_text table name files lines

    -- the system of the facts that live, between its two lines
    abbrev pub saturation_text : List ℕ
    saturation_text = line_for (codes "% SZS output start Saturation") name ++ system_text table spec (equations_of (live s.entries)) ++ line_for (codes "% SZS output end Saturation") name

    -- The text for the verdict of a book in this state: the proof; the system, with its certificate behind it where one is asked for; or
    -- the limit.
    pub data VerdictAnswers : Verdict → List ℕ → Type 0 where
      is_proved : {goal : ℕ} {text : List ℕ} → IsProofText goal text → VerdictAnswers (Proved goal) (status_line (proved_word problem) name ++ text)
      is_saturated : {text : List ℕ} → IsCertificateIf table problem encoded spec s command.certificate text → VerdictAnswers Saturated (status_line (saturated_word problem) name ++ saturation_text ++ text)
      is_out : {v : Verdict} {line : List ℕ} → IsLimitLine command s v line → VerdictAnswers v (status_line (codes "ResourceOut") name ++ line)
