use Rattle.uc_certify.proofs.FinalJoins.{convergent_found}
use Rattle.uc_certify.proofs.laws.convergent_is_joined.Goals as goal

pub returns : goal.returns
returns g c axioms s system f = convergent_found (g.O.Order.meaning c.args.order.now) axioms s system f
