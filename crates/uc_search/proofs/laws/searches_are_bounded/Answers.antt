use Rattle.uc_search.proofs.Bounded.{searched_bounded, few_rounds, few_passes}
use Rattle.uc_search.proofs.laws.searches_are_bounded.Goals as goal

pub returns-clause-bounded : goal.returns-clause-bounded
returns-clause-bounded g c = λ o w v s few a. searched_bounded (g.O.Order.meaning c.args.order.now) o w few v s a

pub returns-clause-rounds : goal.returns-clause-rounds
returns-clause-rounds g c = λ o w v s few a. few_rounds (g.O.Order.meaning c.args.order.now) o w few v s a

pub returns-clause-passes : goal.returns-clause-passes
returns-clause-passes g c = λ o w v s few a. few_passes (g.O.Order.meaning c.args.order.now) o w few v s a
