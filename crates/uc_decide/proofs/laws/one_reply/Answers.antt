use Rattle.uc_decide.proofs.Replies.{one_reply}
use Rattle.uc_decide.proofs.laws.one_reply.Goals as goal

pub returns : goal.returns
returns g c live = one_reply (g.O.Order.meaning c.args.order.now) live
