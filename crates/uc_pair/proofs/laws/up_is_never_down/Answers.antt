use Rattle.uc_pair.proofs.Uniqueness.{up_twice, nowhere_twice}
use Rattle.uc_pair.proofs.laws.up_is_never_down.Goals as goal

pub returns-clause-up : goal.returns-clause-up
returns-clause-up g c = up_twice (g.O.Order.meaning c.args.order.now) (g.met.O.Order.laws c.args.order.now)

pub returns-clause-nowhere : goal.returns-clause-nowhere
returns-clause-nowhere g c = nowhere_twice (g.O.Order.meaning c.args.order.now) (g.met.O.Order.laws c.args.order.now)
