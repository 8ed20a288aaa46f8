use Rattle.uc_runs.proofs.OneResult.{one_result}
use Rattle.uc_runs.proofs.laws.one_result.Goals as goal

pub returns : goal.returns
returns g c = one_result (g.O.Order.meaning c.args.order.now) (g.met.O.Order.laws c.args.order.now)
