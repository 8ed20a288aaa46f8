use Rattle.uc_problem.proofs.GoalLaw.{goal_stands}
use Rattle.uc_problem.proofs.laws.goal_stands_for_conjecture.Goals as goal

pub returns : goal.returns
returns c table files root name problem holds number flat clause conjecture flat_at goal_at = goal_stands table files root name problem holds number flat clause conjecture flat_at goal_at
