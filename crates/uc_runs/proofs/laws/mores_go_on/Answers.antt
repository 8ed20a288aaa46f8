use Rattle.uc_runs.proofs.Continuing.{mores_go_on}
use Rattle.uc_runs.proofs.laws.mores_go_on.Goals as goal

pub returns : goal.returns
returns g c = λ o s r. mores_go_on (g.O.Order.meaning c.args.order.now) o s r
