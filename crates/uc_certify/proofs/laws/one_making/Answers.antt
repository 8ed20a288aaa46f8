use Rattle.uc_certify.proofs.MadeOnce.{all_made_once}
use Rattle.uc_certify.proofs.laws.one_making.Goals as goal

pub returns : goal.returns
returns g c facts axioms a b x y = all_made_once (g.O.Order.meaning c.args.order.now) facts axioms a b x y
