use Rattle.uc_runs.proofs.Whole.{meetings_are_whole}
use Rattle.uc_runs.proofs.laws.meetings_are_whole.Goals as goal

pub returns : goal.returns
returns g c = λ o s r. meetings_are_whole (g.O.Order.meaning c.args.order.now) o s r
