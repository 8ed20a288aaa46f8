use Rattle.uc_runs.proofs.WrittenFacts.{facts_numbered}
use Rattle.uc_runs.proofs.laws.facts_are_numbered.Goals as goal

pub returns : goal.returns
returns g c = λ o s r. facts_numbered (g.O.Order.meaning c.args.order.now) o s r
