use Rattle.std.proofs.Common.{arith, subst}
use Rattle.uc_check.specs.declared.proof.LineStep.{LineStep}
use Rattle.uc_tstp.specs.Bounds.{IsBounded}
use Rattle.uc_tstp.proofs.Seen.{one_more, all_seen}
use Rattle.uc_certificate.proofs.bounds.see_steps.Goals as goal

pub loop-step-preserved : goal.loop-step-preserved
loop-step-preserved c = one_more (λ (s : LineStep). IsBounded s.to) c.args.steps.now c.loop-step.step-index c.step-item.result c.loop-step-test.true c.loop-step.invariant (subst (λ (s : LineStep). IsBounded s.to) c.step-item.is c.see_term.ensures)

pub returns : goal.returns
returns c = all_seen (λ (s : LineStep). IsBounded s.to) c.args.steps.now c.loop-step.step-index (omega arith) c.loop-step.invariant
