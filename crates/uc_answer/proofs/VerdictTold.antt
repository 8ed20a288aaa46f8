-- From the lines of a verdict to its answer.
use Rattle.std.proofs.Common.{ℕ, ◌≡◌, List, [], ◌∷◌, ◌++◌, codes, Result, Ok, Err, sym, ap, ◌∙◌, append_assoc}
use Rattle.std.specs.Result.{IfOk}
use Rattle.std.specs.declared.alloc.AllocError.{AllocError}
use Rattle.uc_term.specs.Table.{Table}
use Rattle.uc_order.specs.declared.spec.OrderSpec.{OrderSpec}
use Rattle.uc_fact.specs.Live.{equations_of}
use Rattle.uc_shelf.specs.Entries.{live}
use Rattle.uc_problem.specs.declared.problem.Problem.{Problem}
use Rattle.uc_problem.specs.declared.problem.Encoded.{Encoded}
use Rattle.uc_machine.specs.declared.event.Verdict.{Verdict}
use Rattle.uc_machine.specs.declared.event.Verdict.TheVariants.{Proved, Saturated}
use Rattle.uc_machine.specs.State.{State}
use Rattle.uc_system.specs.Printing.{system_text}
use Rattle.uc_words.specs.declared.command.Command.{Command}
use Rattle.uc_answer.specs.Lines.{joined}
use Rattle.uc_answer.specs.PrintableProblems.{CanBePrinted}
use Rattle.uc_answer.specs.StatusLines.{status_line, line_for, saturated_word, proved_word}
use Rattle.uc_answer.specs.VerdictLines.{verdict_status, saturation_text, IsProofText, VerdictAnswers, is_proved, is_saturated, is_out, HasEnded}
use Rattle.uc_answer.specs.LimitLines.{IsLimitLine}
use Rattle.uc_answer.specs.CertificateLines.{IsReadBackIf}
use Rattle.uc_answer.specs.Promises.{Certifies, Settles, Keeps}
use Rattle.uc_answer.proofs.PassedCertificates.{certificate_if, none_if, passed_if}
use Rattle.uc_answer.proofs.DirectedLines.{joined_one}
use Rattle.uc_answer.proofs.ProveKeeping.{keeps_more, proved_keeps, saturated_keeps, stopped_keeps}

-- the lines of a system between two others, behind a status line
pub saturation_lines : (a b d t : List ℕ) (ls all : List (List ℕ)) → joined ls ≡ t → all ≡ a ∷ b ∷ (ls ++ d ∷ []) → joined all ≡ a ++ (b ++ t ++ d)
saturation_lines a b d t ls all e is = ap joined is ∙ ap (λ z. a ++ (b ++ z)) (joined_one ls d ∙ ap (λ z. z ++ d) e) ∙ ap (λ z. a ++ z) (sym (append_assoc b t d))

pub saturation_so : (word name system a b d t : List ℕ) (ls all : List (List ℕ)) → a ≡ status_line word name → b ≡ line_for (codes "% SZS output start Saturation") name → d ≡ line_for (codes "% SZS output end Saturation") name → t ≡ system → joined ls ≡ t → all ≡ a ∷ b ∷ (ls ++ d ∷ []) → joined all ≡ status_line word name ++ (line_for (codes "% SZS output start Saturation") name ++ system ++ line_for (codes "% SZS output end Saturation") name)
saturation_so word name system a b d t ls all is_a is_b is_d is_t e is = saturation_lines a b d t ls all e is ∙ ap (λ x. x ++ (b ++ t ++ d)) is_a ∙ ap (λ x. status_line word name ++ (x ++ t ++ d)) is_b ∙ ap (λ x. status_line word name ++ (line_for (codes "% SZS output start Saturation") name ++ x ++ d)) is_t ∙ ap (λ x. status_line word name ++ (line_for (codes "% SZS output start Saturation") name ++ system ++ x)) is_d

module _ (table : Table) (command : Command) (name : List ℕ) (problem : Problem) where
  abbrev pub Promises : ℕ → List ℕ → Type 0
  Promises status answer = CanBePrinted table name problem → Keeps table command name problem status answer

  -- with the history behind the lines
  pub told_more : (status : ℕ) (answer more all : List ℕ) → all ≡ answer ++ more → Promises status answer → Promises status all
  told_more status answer more all e k = λ can. rw e (keeps_more table command name problem status answer more (k can))

  module _ (encoded : Encoded) (spec : OrderSpec) (s : State) where
    abbrev pub ToldProof : ℕ → List (List ℕ) → Type 0
    ToldProof goal lines = (text : List ℕ) × IsProofText table command name problem encoded spec s goal text × (CanBePrinted table name problem → Certifies table problem text) × (joined lines ≡ status_line (proved_word problem) name ++ text)

    abbrev pub ToldLimit : Verdict → List (List ℕ) → Type 0
    ToldLimit v lines = (line : List ℕ) × IsLimitLine command s v line × (joined lines ≡ status_line (codes "ResourceOut") name ++ line)

    pub proved_told : (goal : ℕ) (r : Result (List (List ℕ)) AllocError) → IfOk r (ToldProof goal) → IfOk r (λ lines. VerdictAnswers table command name problem encoded spec s (Proved goal) (joined lines))
    proved_told goal (Ok lines) t = rw t.3 (is_proved t.1)
    proved_told goal (Err fault) t = tt

    pub proved_promised : (goal : ℕ) (r : Result (List (List ℕ)) AllocError) → HasEnded table command problem encoded spec (Proved goal) s → IfOk r (ToldProof goal) → IfOk r (λ lines. Promises (verdict_status (Proved goal)) (joined lines))
    proved_promised goal (Ok lines) h t = λ can. proved_keeps table command name problem encoded spec s goal t.0 (joined lines) h (t.2 can) t.3
    proved_promised goal (Err fault) h t = tt

    -- the certificate's lines behind those of the system
    module _ (lines : List (List ℕ)) (told : joined lines ≡ status_line (saturated_word problem) name ++ saturation_text table command name problem encoded spec s) where
      abbrev ToldCertificate : List (List ℕ) → Type 0
      ToldCertificate all = (text : List ℕ) × IsReadBackIf table problem encoded spec s command.certificate text × (joined all ≡ joined lines ++ text)

      pub saturated_told : (r : Result (List (List ℕ)) AllocError) → IfOk r ToldCertificate → IfOk r (λ all. VerdictAnswers table command name problem encoded spec s Saturated (joined all))
      saturated_told (Ok all) t = rw (t.2 ∙ ap (λ z. z ++ t.0) told) (is_saturated (certificate_if table problem encoded spec s command.certificate t.1))
      saturated_told (Err fault) t = tt

      pub saturated_promised : (r : Result (List (List ℕ)) AllocError) → HasEnded table command problem encoded spec Saturated s → (CanBePrinted table name problem → (settled : Settles table problem spec (system_text table spec (equations_of (live s.entries)))) × (settled.system.facts ≡ equations_of (live s.entries))) → IfOk r ToldCertificate → IfOk r (λ all. Promises 1 (joined all))
      saturated_promised (Ok all) h settles t = λ can. saturated_keeps table command name problem encoded spec s (system_text table spec (equations_of (live s.entries))) t.0 (joined all) h (settles can).0 (passed_if table command name problem encoded spec s h can (settles can).0.system (settles can).1 t.1) (none_if table problem encoded spec s command.certificate t.1) (t.2 ∙ ap (λ z. z ++ t.0) told)
      saturated_promised (Err fault) h settles t = tt

    pub out_told : (v : Verdict) (r : Result (List (List ℕ)) AllocError) → IfOk r (ToldLimit v) → IfOk r (λ lines. VerdictAnswers table command name problem encoded spec s v (joined lines))
    out_told v (Ok lines) t = rw t.2 (is_out t.1)
    out_told v (Err fault) t = tt

    pub out_promised : (v : Verdict) (r : Result (List (List ℕ)) AllocError) → verdict_status v ≡ 2 → HasEnded table command problem encoded spec v s → IfOk r (ToldLimit v) → IfOk r (λ lines. Promises (verdict_status v) (joined lines))
    out_promised v (Ok lines) two h t = λ can. stopped_keeps table command name problem encoded spec s v t.0 (joined lines) two h t.1 t.2
    out_promised v (Err fault) two h t = tt
