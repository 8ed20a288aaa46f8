use Rattle.uc_fact.specs.Live.{equations_of}
use Rattle.uc_decide.proofs.Ordered.{ends_join}
use Rattle.uc_decide.proofs.laws.ends_join.Goals as goal

pub returns : goal.returns
returns g c live s t from_s from_t u v over = ends_join (g.O.Order.meaning c.args.order.now) (g.met.O.Order.laws c.args.order.now) (equations_of live) over s t from_s from_t u v
