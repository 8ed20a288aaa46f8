use Rattle.uc_check.proofs.Steps.{last_is_end}
use Rattle.uc_check.proofs.chain.last_term.Goals as goal

pub returns-in-Some : goal.returns-in-Some
returns-in-Some c = last_is_end c.args.start.now c.args.steps.now c.in-Some.step.now c.in-Some.ensures.value
