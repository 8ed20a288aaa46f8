use Rattle.uc_unify.proofs.Decided.{not_of, of}
use Rattle.uc_rewrite.proofs.Replays.{step_at, nothing_left, reached_none, reached_more, reached_all, stops_here}
use Rattle.uc_rewrite.proofs.replaying.replayed.Goals as goal

pub loop-step-init : goal.loop-step-init
loop-step-init c = reached_none c.args.axioms.now c.args.facts.now c.args.start.now c.args.steps.now

pub loop-step-preserved : goal.loop-step-preserved
loop-step-preserved c =
    let at = step_at c.args.steps.now c.loop-step.step-index c.step-item.result c.loop-step-test.true c.step-item.is in
    reached_more c.args.axioms.now c.args.facts.now c.args.start.now c.args.steps.now c.loop-step.before.now _ _ c.step-item.result c.loop-step.invariant at (of c.in_ok-is_replacement.field-0 c.if-not-branch.false c.in_ok-is_replacement.ensures)

pub returns-then-not-branch : goal.returns-then-not-branch
returns-then-not-branch c =
    let at = step_at c.args.steps.now c.loop-step.step-index c.step-item.result c.loop-step-test.true c.step-item.is in
    stops_here c.args.axioms.now c.args.facts.now c.args.start.now c.args.steps.now c.loop-step.before.now _ _ c.step-item.result c.loop-step.invariant at (not_of c.in_ok-is_replacement.field-0 c.if-not-branch.true c.in_ok-is_replacement.ensures)

pub returns : goal.returns
returns c = reached_all c.args.axioms.now c.args.facts.now c.args.start.now c.args.steps.now c.loop-step.before.now _ c.loop-step.invariant (nothing_left c.args.steps.now c.loop-step.step-index c.loop-step-test.false)
