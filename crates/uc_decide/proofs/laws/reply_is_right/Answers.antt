use Rattle.uc_decide.proofs.Verdicts.{right}
use Rattle.uc_decide.proofs.laws.reply_is_right.Goals as goal

pub returns : goal.returns
returns g c es axioms s t reply d = right (g.O.Order.meaning c.args.order.now) es axioms d s t reply
