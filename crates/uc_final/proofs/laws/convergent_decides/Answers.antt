use Rattle.uc_final.proofs.Decided.{convergent_decides}
use Rattle.uc_final.proofs.laws.convergent_decides.Goals as goal

pub returns : goal.returns
returns g c axioms s system = convergent_decides (g.O.Order.meaning c.args.order.now) (g.met.O.Order.laws c.args.order.now) axioms s system
