use Rattle.uc_decide.proofs.Peaks.{locally_confluent}
use Rattle.uc_decide.proofs.laws.critical_pairs.Goals as goal

pub returns : goal.returns
returns g c live rising join = locally_confluent (g.O.Order.meaning c.args.order.now) (g.met.O.Order.laws c.args.order.now) live join rising
