use Rattle.uc_runs.proofs.Furthering.{continued_go_further}
use Rattle.uc_runs.proofs.laws.continued_go_further.Goals as goal

pub returns : goal.returns
returns g c = λ o s r. continued_go_further (g.O.Order.meaning c.args.order.now) o s r
