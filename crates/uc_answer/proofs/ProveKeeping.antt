-- What the answer for a verdict keeps.
use Rattle.std.proofs.Common.{ℕ, ◌≡◌, true, false, List, [], ◌++◌, codes, refl, sym, ap, ◌∙◌, arith, append_assoc, subst}
use Rattle.std.proofs.lemmas.List.{append-nil}
use Rattle.uc_term.specs.Table.{Table}
use Rattle.uc_order.specs.declared.spec.OrderSpec.{OrderSpec}
use Rattle.uc_order.specs.Laws.{Meaning}
use Rattle.uc_problem.specs.declared.problem.Problem.{Problem}
use Rattle.uc_problem.specs.declared.problem.Encoded.{Encoded}
use Rattle.uc_machine.specs.declared.event.Verdict.{Verdict}
use Rattle.uc_machine.specs.declared.event.Verdict.TheVariants.{Proved, Saturated, BudgetOut, PairsOut, LargeOverlap, LargeGoal}
use Rattle.uc_machine.specs.State.{Opening, State}
use Rattle.uc_runs.specs.Causes.{Causes, CausesIfLimit}
use Rattle.uc_words.specs.declared.command.Command.{Command}
use Rattle.uc_ordering.specs.Meaning.{meaning_of}
use Rattle.uc_answer.specs.StatusLines.{status_line, line_for, proved_word, saturated_word}
use Rattle.uc_answer.specs.VerdictLines.{verdict_status, opening_for, HasEnded}
use Rattle.uc_answer.specs.LimitLines.{IsLimitLine}
use Rattle.uc_answer.specs.Promises.{Certifies, IsRefuted, Settles, HasPassed, IsSettled, IsStopped, Keeps}

-- more may stand behind an answer
module _ (table : Table) (command : Command) (name : List ℕ) (problem : Problem) where
  refuted_more : (answer more : List ℕ) → IsRefuted table name problem answer → IsRefuted table name problem (answer ++ more)
  refuted_more answer more r = record {
    proof = r.proof;
    history = r.history ++ more;
    certifies = r.certifies;
    answer_is = ap (λ t. t ++ more) r.answer_is ∙ append_assoc (status_line (proved_word problem) name ++ r.proof) r.history more;
  }

  settled_more : (spec : OrderSpec) (answer more : List ℕ) → IsSettled table command name problem spec answer → IsSettled table command name problem spec (answer ++ more)
  settled_more spec answer more r = record {
    system = r.system;
    certificate = r.certificate;
    history = r.history ++ more;
    settles = r.settles;
    asked = r.asked;
    not_asked = r.not_asked;
    answer_is = ap (λ t. t ++ more) r.answer_is ∙ append_assoc (status_line (saturated_word problem) name ++ line_for (codes "% SZS output start Saturation") name ++ r.system ++ line_for (codes "% SZS output end Saturation") name ++ r.certificate) r.history more;
  }

  stopped_more : (spec : OrderSpec) (answer more : List ℕ) → IsStopped table command name problem spec answer → IsStopped table command name problem spec (answer ++ more)
  stopped_more spec answer more r = record {
    encoded = r.encoded;
    encodes = r.encodes;
    verdict = r.verdict;
    state = r.state;
    searched = r.searched;
    cause = r.cause;
    line = r.line;
    line_is = r.line_is;
    history = r.history ++ more;
    answer_is = ap (λ t. t ++ more) r.answer_is ∙ append_assoc (status_line (codes "ResourceOut") name ++ r.line) r.history more;
  }

  pub keeps_more : (status : ℕ) (answer more : List ℕ) → Keeps table command name problem status answer → Keeps table command name problem status (answer ++ more)
  keeps_more status answer more k = record {
    fresh = k.fresh;
    marked = k.marked;
    spec = k.spec;
    chosen = k.chosen;
    refuted = λ e. refuted_more answer more (k.refuted e);
    settled = λ e. settled_more k.spec answer more (k.settled e);
    stopped = λ e. stopped_more k.spec answer more (k.stopped e);
  }

  module _ (encoded : Encoded) (spec : OrderSpec) (s : State) where
    pub proved_keeps : (goal : ℕ) (text answer : List ℕ) → HasEnded table command problem encoded spec (Proved goal) s → Certifies table problem text → answer ≡ status_line (proved_word problem) name ++ text → Keeps table command name problem 0 answer
    proved_keeps goal text answer h c e = record {
      fresh = encoded.fresh;
      marked = h.encodes.0;
      spec = spec;
      chosen = h.chosen;
      refuted = λ z. record { proof = text; history = []; certifies = c; answer_is = e ∙ sym (append-nil (status_line (proved_word problem) name ++ text)) };
      settled = λ z. absurd (omega (arith, z));
      stopped = λ z. absurd (omega (arith, z));
    }

    -- the four parts of a saturated answer one behind the other
    in_a_row : (a b c d : List ℕ) → a ++ (b ++ c ++ d) ≡ a ++ b ++ c ++ d
    in_a_row a b c d = sym (append_assoc a (b ++ c) d) ∙ ap (λ t. t ++ d) (sym (append_assoc a b c))

    pub saturated_keeps : (system certificate answer : List ℕ) → HasEnded table command problem encoded spec Saturated s → (c : Settles table problem spec system) → (command.certificate ≡ true → HasPassed table problem spec c.system (status_line (saturated_word problem) name ++ (line_for (codes "% SZS output start Saturation") name ++ system ++ line_for (codes "% SZS output end Saturation") name)) certificate) → (command.certificate ≡ false → certificate ≡ []) → answer ≡ status_line (saturated_word problem) name ++ (line_for (codes "% SZS output start Saturation") name ++ system ++ line_for (codes "% SZS output end Saturation") name) ++ certificate → Keeps table command name problem 1 answer
    saturated_keeps system certificate answer h c asked not_asked e = record {
      fresh = encoded.fresh;
      marked = h.encodes.0;
      spec = spec;
      chosen = h.chosen;
      refuted = λ z. absurd (omega (arith, z));
      settled = λ z. record {
        system = system;
        certificate = certificate;
        history = [];
        settles = c;
        asked = λ is. subst (λ before. HasPassed table problem spec c.system before certificate) (in_a_row (status_line (saturated_word problem) name) (line_for (codes "% SZS output start Saturation") name) system (line_for (codes "% SZS output end Saturation") name)) (asked is);
        not_asked = not_asked;
        answer_is = e ∙ ap (λ t. t ++ certificate) (in_a_row (status_line (saturated_word problem) name) (line_for (codes "% SZS output start Saturation") name) system (line_for (codes "% SZS output end Saturation") name)) ∙ sym (append-nil (status_line (saturated_word problem) name ++ line_for (codes "% SZS output start Saturation") name ++ system ++ line_for (codes "% SZS output end Saturation") name ++ certificate));
      };
      stopped = λ z. absurd (omega (arith, z));
    }

    cause_for : (m : Meaning) (o : Opening) (t : State) (v : Verdict) → verdict_status v ≡ 2 → CausesIfLimit m o t v → Causes m o t v
    cause_for m o t (Proved goal) e h = absurd (omega (arith, e))
    cause_for m o t Saturated e h = absurd (omega (arith, e))
    cause_for m o t (BudgetOut counted) e h = h
    cause_for m o t (PairsOut waiting new) e h = h
    cause_for m o t (LargeOverlap x) e h = h
    cause_for m o t (LargeGoal goal) e h = h

    pub stopped_keeps : (v : Verdict) (line answer : List ℕ) → verdict_status v ≡ 2 → HasEnded table command problem encoded spec v s → IsLimitLine command s v line → answer ≡ status_line (codes "ResourceOut") name ++ line → Keeps table command name problem (verdict_status v) answer
    stopped_keeps v line answer two h is e = record {
      fresh = encoded.fresh;
      marked = h.encodes.0;
      spec = spec;
      chosen = h.chosen;
      refuted = λ z. absurd (omega (arith, z, two));
      settled = λ z. absurd (omega (arith, z, two));
      stopped = λ z. record {
        encoded = encoded;
        encodes = h.encodes;
        verdict = v;
        state = s;
        searched = h.searched;
        cause = cause_for (meaning_of table spec) (opening_for command encoded) h.searched.ended.came.then_ v two (subst (CausesIfLimit (meaning_of table spec) (opening_for command encoded) h.searched.ended.came.then_) h.searched.verdict h.searched.ended.came.cause);
        line = line;
        line_is = is;
        history = [];
        answer_is = e ∙ sym (append-nil (status_line (codes "ResourceOut") name ++ line));
      };
    }

pub out_status : (v : Verdict) → ((goal : ℕ) → v ≡ Proved goal → ⊥) → (v ≡ Saturated → ⊥) → verdict_status v ≡ 2
out_status (Proved goal) n k = absurd (n goal refl)
out_status Saturated n k = absurd (k refl)
out_status (BudgetOut counted) n k = refl
out_status (PairsOut waiting new) n k = refl
out_status (LargeOverlap x) n k = refl
out_status (LargeGoal goal) n k = refl
