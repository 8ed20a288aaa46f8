use Rattle.std.proofs.Common.{ap, ◌∙◌}
use Rattle.uc_term.specs.Variables.{firsts}
use Rattle.uc_term.proofs.Terms.{take_of_length-le}
use Rattle.uc_proof.proofs.Writing.{bys, parent_seen}
use Rattle.uc_proof.proofs.steps.parents.Goals as goal

pub loop-step-preserved : goal.loop-step-preserved
loop-step-preserved c = parent_seen c.args.steps.now c.loop-step.step-index c.step-item.result _ c.loop-step.seen.keys c.insert.new.self.keys c.loop-step-test.true c.step-item.is c.loop-step.invariant c.in_ok-insert.ensures.keys

pub returns : goal.returns
returns c =
    c.from_vec.ensures ∙ c.in_ok-from_slice.ensures.items ∙ c.as_slice.ensures.keys ∙ c.loop-step.invariant ∙ ap (λ l. firsts (bys l)) (take_of_length-le c.args.steps.now c.loop-step.step-index c.loop-step-test.false)
