use Rattle.uc_runs.proofs.OverRuns.{ends_stay_ground}
use Rattle.uc_runs.proofs.laws.ends_stay_ground.Goals as goal

pub returns : goal.returns
returns g c = λ o s over ground r. ends_stay_ground (g.O.Order.meaning c.args.order.now) (g.met.O.Order.laws c.args.order.now) o over ground s r
