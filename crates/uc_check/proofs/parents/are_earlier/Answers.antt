use Rattle.uc_unify.proofs.Decided.{never, always}
use Rattle.uc_check.proofs.Earlier.{rest_earlier, none_earlier, all_earlier}
use Rattle.uc_check.proofs.parents.are_earlier.Goals as goal

pub loop-parent-preserved : goal.loop-parent-preserved
loop-parent-preserved c =
    let rest = rest_earlier c.args.number c.args.parents.now c.loop-parent.parent-index c.loop-parent-test.true c.if-parent-number.false in
    (λ h. rest.0 (c.loop-parent.invariant.0 h), λ h. c.loop-parent.invariant.1 (rest.1 h))

pub returns-then-parent-number : goal.returns-then-parent-number
returns-then-parent-number c = never (λ h. none_earlier c.args.number c.args.parents.now c.loop-parent.parent-index c.loop-parent-test.true c.if-parent-number.true (c.loop-parent.invariant.0 h))

pub returns : goal.returns
returns c = always (c.loop-parent.invariant.1 (all_earlier c.args.number c.args.parents.now c.loop-parent.parent-index c.loop-parent-test.false))
