use Rattle.uc_certify.proofs.Joinable.{joins}
use Rattle.uc_certify.proofs.laws.joins_are_joinable.Goals as goal

pub returns : goal.returns
returns g c facts l r join j = joins (g.O.Order.meaning c.args.order.now) (g.met.O.Order.laws c.args.order.now) facts l r join j
