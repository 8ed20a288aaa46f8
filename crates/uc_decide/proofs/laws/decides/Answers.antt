use Rattle.uc_decide.proofs.Classes.{decides}
use Rattle.uc_decide.proofs.laws.decides.Goals as goal

pub returns : goal.returns
returns g c live axioms = decides (g.O.Order.meaning c.args.order.now) (g.met.O.Order.laws c.args.order.now) live axioms
