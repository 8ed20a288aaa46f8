use Rattle.uc_runs.proofs.OverRuns.{stays_over}
use Rattle.uc_runs.proofs.laws.stays_over_signature.Goals as goal

pub returns : goal.returns
returns g c = λ o s over r. stays_over (g.O.Order.meaning c.args.order.now) (g.met.O.Order.laws c.args.order.now) o over s r
