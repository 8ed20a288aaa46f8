use Rattle.uc_runs.proofs.Origins.{origins_known}
use Rattle.uc_runs.proofs.laws.origins_known.Goals as goal

pub returns : goal.returns
returns g c = λ o s r. origins_known (g.O.Order.meaning c.args.order.now) o s r
