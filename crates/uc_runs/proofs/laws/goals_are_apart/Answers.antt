use Rattle.uc_runs.proofs.GoalsApart.{goals_apart}
use Rattle.uc_runs.proofs.laws.goals_are_apart.Goals as goal

pub returns : goal.returns
returns g c = λ o s over ground r h. goals_apart (g.O.Order.meaning c.args.order.now) (g.met.O.Order.laws c.args.order.now) o over ground s r h
