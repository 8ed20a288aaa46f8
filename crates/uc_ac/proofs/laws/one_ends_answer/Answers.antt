use Rattle.uc_ac.proofs.Ends.{one_ends}
use Rattle.uc_ac.proofs.laws.one_ends_answer.Goals as goal

pub returns : goal.returns
returns g c live s t a b i j = one_ends live (g.O.Order.meaning c.args.order.now) s t a b i j
