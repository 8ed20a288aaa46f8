use Rattle.uc_rewrite.proofs.Unique.{one_normal}
use Rattle.uc_rewrite.proofs.laws.one_normal_form.Goals as goal

pub returns : goal.returns
returns g c live limit t a b m n = one_normal (g.O.Order.meaning c.args.order.now).greater (g.O.Order.meaning c.args.order.now).least live limit t a b m n
