use Rattle.uc_runs.proofs.FewFacts.{facts_within}
use Rattle.uc_runs.proofs.laws.facts_within_budget.Goals as goal

pub returns : goal.returns
returns g c = λ o s r. facts_within (g.O.Order.meaning c.args.order.now) o s r
