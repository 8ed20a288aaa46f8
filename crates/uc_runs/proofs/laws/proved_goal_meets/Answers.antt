use Rattle.uc_runs.proofs.ProvedGoals.{proved}
use Rattle.uc_runs.proofs.laws.proved_goal_meets.Goals as goal

pub returns : goal.returns
returns g c = λ o s goal_ r h. proved (g.O.Order.meaning c.args.order.now) o goal_ s r h
