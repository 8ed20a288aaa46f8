use Rattle.uc_runs.proofs.WrittenFacts.{facts_small}
use Rattle.uc_runs.proofs.laws.facts_are_small.Goals as goal

pub returns : goal.returns
returns g c = λ o s small r. facts_small (g.O.Order.meaning c.args.order.now) o small s r
