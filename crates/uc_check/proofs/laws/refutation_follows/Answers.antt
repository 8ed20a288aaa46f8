use Rattle.uc_check.proofs.Sound.{goal_shown}
use Rattle.uc_check.proofs.laws.refutation_follows.Goals as goal

pub returns : goal.returns
returns c clauses fresh lines are has right end = goal_shown clauses fresh lines are has right end
