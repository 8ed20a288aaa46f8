use Rattle.uc_runs.proofs.AtRest.{goals_at_rest}
use Rattle.uc_runs.proofs.laws.goals_at_rest.Goals as goal

pub returns : goal.returns
returns g c = λ o s r. goals_at_rest (g.O.Order.meaning c.args.order.now) o s r
