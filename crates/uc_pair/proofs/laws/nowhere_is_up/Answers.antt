use Rattle.uc_pair.proofs.Uniqueness.{nowhere_up}
use Rattle.uc_pair.proofs.laws.nowhere_is_up.Goals as goal

pub returns : goal.returns
returns g c = nowhere_up (g.O.Order.meaning c.args.order.now) (g.met.O.Order.laws c.args.order.now)
