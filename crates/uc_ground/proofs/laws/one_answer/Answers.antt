use Rattle.uc_ground.proofs.Unique.{one_answer}
use Rattle.uc_ground.proofs.laws.one_answer.Goals as goal

pub returns : goal.returns
returns g c live s t a b i j = one_answer (g.O.Order.meaning c.args.order.now) live s t a b i j
