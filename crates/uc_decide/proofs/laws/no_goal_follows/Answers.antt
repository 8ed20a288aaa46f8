use Rattle.uc_decide.proofs.Verdicts.{no_goal}
use Rattle.uc_decide.proofs.laws.no_goal_follows.Goals as goal

pub returns : goal.returns
returns g c es axioms goals d = no_goal (g.O.Order.meaning c.args.order.now) (g.met.O.Order.laws c.args.order.now) es axioms d goals
