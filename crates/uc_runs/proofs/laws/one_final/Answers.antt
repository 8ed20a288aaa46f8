use Rattle.uc_runs.proofs.OneResult.{one_final}
use Rattle.uc_runs.proofs.laws.one_final.Goals as goal

pub returns : goal.returns
returns g c = one_final (g.O.Order.meaning c.args.order.now) (g.met.O.Order.laws c.args.order.now)
