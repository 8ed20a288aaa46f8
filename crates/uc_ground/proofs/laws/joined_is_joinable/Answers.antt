use Rattle.uc_ground.proofs.Joins.{joins}
use Rattle.uc_ground.proofs.laws.joined_is_joinable.Goals as goal

pub returns : goal.returns
returns g c live s t answer i j over = joins (g.O.Order.meaning c.args.order.now) (g.met.O.Order.laws c.args.order.now) live over s t answer i j
