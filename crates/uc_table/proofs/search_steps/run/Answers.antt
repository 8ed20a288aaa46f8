use Rattle.std.proofs.Common.{[]}
use Rattle.uc_table.specs.SearchSteps.{run}
use Rattle.uc_table.proofs.SearchRuns.{never_at}
use Rattle.uc_table.proofs.search_steps.run.Goals as goal

pub returns : goal.returns
returns c =
    never_at c.args.size c.args.assignment c.args.prefix.now c.loop-step.stack c.args.steps.now c.loop-step.top c.loop-step.step-index
    (run c.args.size c.args.assignment c.args.prefix.now c.args.steps.now []) c.loop-step.invariant.ran c.loop-step-test.false c.loop-step.invariant.within c.if-stack-top-eq2.false
