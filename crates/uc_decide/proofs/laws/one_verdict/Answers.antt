use Rattle.uc_decide.proofs.Verdicts.{one_verdict}
use Rattle.uc_decide.proofs.laws.one_verdict.Goals as goal

pub returns : goal.returns
returns g c = one_verdict (g.O.Order.meaning c.args.order.now) (g.met.O.Order.laws c.args.order.now)
