use Rattle.uc_decide.proofs.Pairs.{pair_joins}
use Rattle.uc_decide.proofs.laws.pair_joins.Goals as goal

pub returns : goal.returns
returns g c live = pair_joins (g.O.Order.meaning c.args.order.now) live
