use Rattle.uc_ac.proofs.Ends.{ends_join}
use Rattle.uc_ac.proofs.laws.ends_joined_is_joinable.Goals as goal

pub returns : goal.returns
returns g c live s t answer i j over = ends_join live (g.O.Order.meaning c.args.order.now) (g.met.O.Order.laws c.args.order.now) s t over answer i j
