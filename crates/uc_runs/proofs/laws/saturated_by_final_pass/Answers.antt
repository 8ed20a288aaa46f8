use Rattle.uc_runs.proofs.Saturating.{saturated}
use Rattle.uc_runs.proofs.laws.saturated_by_final_pass.Goals as goal

pub returns : goal.returns
returns g c = λ o s r h. saturated (g.O.Order.meaning c.args.order.now) o s r h
