use Rattle.uc_runs.proofs.Verdicting.{verdict_came}
use Rattle.uc_runs.proofs.laws.verdicts_have_causes.Goals as goal

pub returns : goal.returns
returns g c = λ o s v r e. verdict_came (g.O.Order.meaning c.args.order.now) o s r v e
