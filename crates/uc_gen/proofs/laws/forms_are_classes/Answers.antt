use Rattle.uc_gen.proofs.Classes.{are_classes}
use Rattle.uc_gen.proofs.laws.forms_are_classes.Goals as goal

pub returns : goal.returns
returns g c = λ es axioms terms count d ground h. are_classes (g.O.Order.meaning c.args.order.now) es terms axioms d ground count h
