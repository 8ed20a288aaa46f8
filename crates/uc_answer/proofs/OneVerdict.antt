-- The verdict of a book has one text.
use Rattle.std.proofs.Common.{ℕ, ◌≡◌, List, ◌++◌, codes, Ok, refl, sym, ap, ap₂, ◌∙◌, subst}
use Rattle.uc_term.specs.Equations.{side_of}
use Rattle.uc_term.specs.Positions.{IsPlaceOf}
use Rattle.uc_term.specs.Table.{Table}
use Rattle.uc_tstp.specs.Printing.{proof_text}
use Rattle.uc_problem.specs.declared.problem.Problem.{Problem}
use Rattle.uc_problem.specs.declared.problem.Encoded.{Encoded}
use Rattle.uc_problem.specs.Holds.{Agrees}
use Rattle.uc_problem.specs.Encodes.{Encodes}
use Rattle.uc_problem.proofs.Outcomes.{some_once}
use Rattle.uc_order.specs.declared.spec.OrderSpec.{OrderSpec}
use Rattle.uc_fact.specs.declared.fact.Fact.{Fact}
use Rattle.uc_fact.specs.Live.{equation_of}
use Rattle.uc_shelf.specs.Entries.{born}
use Rattle.uc_machine.specs.declared.event.Verdict.{Verdict}
use Rattle.uc_machine.specs.declared.event.Verdict.TheVariants.{Proved, Saturated}
use Rattle.uc_machine.specs.State.{State, Target}
use Rattle.uc_proof.specs.Extracted.{IsExtracted}
use Rattle.uc_proof.specs.declared.aim.Aim.TheVariants as aim
use Rattle.uc_proof.specs.Chains.{conclusion_of}
use Rattle.uc_proof.proofs.Once.{derived_once}
use Rattle.uc_words.specs.declared.command.Command.{Command}
use Rattle.uc_answer.specs.StatusLines.{status_line, proved_word, saturated_word}
use Rattle.uc_answer.proofs.OneCertificate.{certificate_if_once}
use Rattle.uc_answer.specs.LimitLines.{overlap_line, IsLimitLine, budget_is_spent, limit_is_passed, pair_is_large, step_is_large}
use Rattle.uc_answer.specs.VerdictLines.{saturation_text, IsProofText, VerdictAnswers, is_proved, is_saturated, is_out}
use Rattle.uc_term.proofs.OnePath.{path_once}

module _ (command : Command) (s : State) where
  isnt_proved : {goal : ℕ} {line : List ℕ} {A : Type 0} → IsLimitLine command s (Proved goal) line → A
  isnt_proved l = elim l [ ]

  pub isnt_saturated : {line : List ℕ} {A : Type 0} → IsLimitLine command s Saturated line → A
  isnt_saturated l = elim l [ ]

  pub limit_once : {v : Verdict} {x y : List ℕ} → IsLimitLine command s v x → IsLimitLine command s v y → x ≡ y
  limit_once budget_is_spent budget_is_spent = refl
  limit_once limit_is_passed limit_is_passed = refl
  limit_once (pair_is_large {o = o} outer path at place) (pair_is_large other written there placed) =
      let same : other ≡ outer = some_once there at in
      ap (overlap_line o) (path_once (side_of o.outer_side (equation_of outer)) path written o.position.0 place (subst (λ (f : Fact). IsPlaceOf (side_of o.outer_side (equation_of f)) written o.position.0) same placed))
  limit_once step_is_large step_is_large = refl

module _ (table : Table) (command : Command) (name : List ℕ) (problem : Problem) (agrees : Agrees table problem) (encoded : Encoded) (encodes : Encodes table problem (Ok encoded)) (spec : OrderSpec) (s : State) where
  proof_once : (goal : ℕ) {x y : List ℕ} → IsProofText table command name problem encoded spec s goal x → IsProofText table command name problem encoded spec s goal y → x ≡ y
  proof_once goal p q =
      let targets : q.target ≡ p.target = some_once q.target_is p.target_is in
      let there = subst (λ (t : Target). IsExtracted problem encoded (born s.entries) t.left t.right goal q.lines q.files) targets q.extracted in
      let once = derived_once problem encoded (born s.entries) (aim.Goal (conclusion_of p.target.left p.target.right) goal) (record { table = table; agrees = agrees; encodes = encodes }) p.lines q.lines p.files q.files p.extracted there in
      p.text_is ∙ ap₂ (proof_text table name) once.1 once.0 ∙ sym q.text_is

  pub verdict_once : {v : Verdict} {x y : List ℕ} → VerdictAnswers table command name problem encoded spec s v x → VerdictAnswers table command name problem encoded spec s v y → x ≡ y
  verdict_once (is_proved {goal = goal} p) (is_proved q) = ap (λ text. status_line (proved_word problem) name ++ text) (proof_once goal p q)
  verdict_once (is_proved p) (is_out l) = isnt_proved command s l
  verdict_once (is_saturated p) (is_saturated q) = ap (λ text. status_line (saturated_word problem) name ++ saturation_text table command name problem encoded spec s ++ text) (certificate_if_once table problem agrees encoded encodes spec s command.certificate p q)
  verdict_once (is_saturated p) (is_out l) = isnt_saturated command s l
  verdict_once (is_out l) (is_proved q) = isnt_proved command s l
  verdict_once (is_out l) (is_saturated q) = isnt_saturated command s l
  verdict_once (is_out l) (is_out k) = ap (λ line. status_line (codes "ResourceOut") name ++ line) (limit_once command s l k)
