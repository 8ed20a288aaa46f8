use Rattle.std.proofs.Common.{length}
use Rattle.std.proofs.lemmas.Bool.{eqb-true, eq-eqb}
use Rattle.uc_unify.proofs.Decided.{never}
use Rattle.uc_check.proofs.Steps.{step_at}
use Rattle.uc_check.proofs.Named.{named_none, named_more, named_otherwise, all_named}
use Rattle.uc_check.proofs.chain.are_named_by.Goals as goal

pub loop-step-init : goal.loop-step-init
loop-step-init c = named_none c.args.parents.now c.args.steps.now

pub named_with-requires : goal.named_with-requires
named_with-requires c = c.loop-step.invariant.within

pub loop-step-preserved : goal.loop-step-preserved
loop-step-preserved c =
    let at = step_at c.args.steps.now c.loop-step.step-index c.step-item.result c.loop-step-test.true c.step-item.is in
    named_more c.args.parents.now c.args.steps.now c.loop-step.step-index c.loop-step.named c.step-item.result c.loop-step.invariant at c.in-Some.more c.in-Some.ensures

pub returns-in-None : goal.returns-in-None
returns-in-None c =
    let at = step_at c.args.steps.now c.loop-step.step-index c.step-item.result c.loop-step-test.true c.step-item.is in
    never (named_otherwise c.args.parents.now c.args.steps.now c.loop-step.step-index c.loop-step.named c.step-item.result c.loop-step.invariant at c.in-None.ensures)

pub returns : goal.returns
returns c =
    let all = all_named c.args.parents.now c.args.steps.now c.loop-step.step-index c.loop-step.named c.loop-step.invariant c.loop-step-test.false in
    (λ h. all.0 (eqb-true c.loop-step.named (length c.args.parents.now) h), λ e. eq-eqb c.loop-step.named (length c.args.parents.now) (all.1 e))
