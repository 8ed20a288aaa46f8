use Rattle.uc_rewrite.proofs.Unique.{one_normal}
use Rattle.uc_rewrite.proofs.laws.one_normal_form_under.Goals as goal

pub returns : goal.returns
returns g c cases live limit t a b m n = one_normal ((g.O.Order.meaning c.args.order.now).under cases) (g.O.Order.meaning c.args.order.now).least live limit t a b m n
