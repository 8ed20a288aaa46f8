use Rattle.std.proofs.lemmas.List.{drop_all}
use Rattle.uc_unify.proofs.Decided.{not_of, of}
use Rattle.std.proofs.Common.{ap, ◌∙◌}
use Rattle.uc_check.specs.Replacements.{chain_end}
use Rattle.uc_check.proofs.Steps.{step_at, stops_early, stops_wrong, steps_on, all_stepped}
use Rattle.uc_check.proofs.chain.test_steps.Goals as goal

pub loop-step-preserved : goal.loop-step-preserved
loop-step-preserved c =
    let at = step_at c.args.steps.now c.loop-step.step-index c.step-item.result c.loop-step-test.true c.step-item.is in
    record {
      back = steps_on c.args.lines.now c.args.number c.args.start.now c.loop-step.before.now c.args.steps.now _ _ c.step-item.result c.loop-step.invariant.back at c.if-step-number.false (of c.in_ok-is_replacement.field-0 c.if-not-branch.false c.in_ok-is_replacement.ensures);
      same = c.loop-step.invariant.same ∙ ap (chain_end c.loop-step.before.now) at;
    }

pub returns-then-step-number : goal.returns-then-step-number
returns-then-step-number c =
    let at = step_at c.args.steps.now c.loop-step.step-index c.step-item.result c.loop-step-test.true c.step-item.is in
    stops_early c.args.lines.now c.args.number c.args.start.now c.loop-step.before.now c.args.steps.now _ _ c.step-item.result c.loop-step.invariant.back at c.if-step-number.true

pub returns-then-not-branch : goal.returns-then-not-branch
returns-then-not-branch c =
    let at = step_at c.args.steps.now c.loop-step.step-index c.step-item.result c.loop-step-test.true c.step-item.is in
    stops_wrong c.args.lines.now c.args.number c.args.start.now c.loop-step.before.now c.args.steps.now _ _ c.step-item.result c.loop-step.invariant.back at c.if-step-number.false (not_of c.in_ok-is_replacement.field-0 c.if-not-branch.true c.in_ok-is_replacement.ensures)

pub returns : goal.returns
returns c = all_stepped c.args.lines.now c.args.number c.args.start.now c.loop-step.before.now c.args.steps.now _ c.loop-step.invariant.back (drop_all c.loop-step.step-index c.args.steps.now c.loop-step-test.false) c.loop-step.invariant.same
