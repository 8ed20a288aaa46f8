use Rattle.uc_runs.proofs.Earlier.{fronts_are_earlier}
use Rattle.uc_runs.proofs.laws.fronts_are_earlier.Goals as goal

pub returns : goal.returns
returns g c = fronts_are_earlier (g.O.Order.meaning c.args.order.now) (g.met.O.Order.laws c.args.order.now)
