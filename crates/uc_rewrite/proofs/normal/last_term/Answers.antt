use Rattle.uc_rewrite.proofs.Chaining.{last_is_end}
use Rattle.uc_rewrite.proofs.normal.last_term.Goals as goal

pub returns-in-Some : goal.returns-in-Some
returns-in-Some c = last_is_end c.args.start.now c.args.steps.now c.in-Some.step.now c.in-Some.ensures.value
