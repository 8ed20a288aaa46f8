use Rattle.std.proofs.Common.{List, subst}
use Rattle.uc_fact.specs.declared.chain.Step.{Step}
use Rattle.uc_proof.specs.Written.{AreStepsFor}
use Rattle.uc_rewrite.proofs.Replays.{step_at, nothing_left}
use Rattle.uc_proof.proofs.Writing.{writing_begins, named_here, inside_here, writing_on, writing_ends}
use Rattle.uc_proof.proofs.steps.line_steps.Goals as goal

pub loop-step-init : goal.loop-step-init
loop-step-init c = writing_begins c.args.plan.now c.args.chain.now c.as_slice-steps.result.now c.new-written.result.items c.requires c.as_slice-steps.ensures c.new-written.ensures.items

pub line_step-requires-clause-named : goal.line_step-requires-clause-named
line_step-requires-clause-named c =
    named_here c.args.plan.now c.args.chain.now.start c.as_slice-steps.result.now c.loop-step.before.now c.loop-step.step-index c.loop-step.written.items c.step-item.result c.loop-step.invariant
    (step_at c.as_slice-steps.result.now c.loop-step.step-index c.step-item.result c.loop-step-test.true c.step-item.is)

pub line_step-requires-clause-inside : goal.line_step-requires-clause-inside
line_step-requires-clause-inside c =
    inside_here c.args.plan.now c.args.chain.now.start c.as_slice-steps.result.now c.loop-step.before.now c.loop-step.step-index c.loop-step.written.items c.step-item.result c.loop-step.invariant
    (step_at c.as_slice-steps.result.now c.loop-step.step-index c.step-item.result c.loop-step-test.true c.step-item.is)

pub loop-step-preserved : goal.loop-step-preserved
loop-step-preserved c =
    writing_on c.args.plan.now c.args.chain.now.start c.as_slice-steps.result.now c.loop-step.before.now c.loop-step.step-index c.loop-step.written.items c.step-item.result c.loop-step.invariant
    (step_at c.as_slice-steps.result.now c.loop-step.step-index c.step-item.result c.loop-step-test.true c.step-item.is) c.in_ok-line_step.field-0 c.push.new.self.items c.in_ok-line_step.ensures c.in_ok-push.ensures.items

pub returns : goal.returns
returns c =
    subst (λ (ss : List Step). AreStepsFor c.args.plan.now c.args.chain.now.start ss c.loop-step.written.items) c.as_slice-steps.ensures
    (writing_ends c.args.plan.now c.args.chain.now.start c.as_slice-steps.result.now c.loop-step.before.now c.loop-step.step-index c.loop-step.written.items c.loop-step.invariant
    (nothing_left c.as_slice-steps.result.now c.loop-step.step-index c.loop-step-test.false))
