use Rattle.uc_search.proofs.OneSearch.{one_search}
use Rattle.uc_search.proofs.laws.one_search.Goals as goal

pub returns : goal.returns
returns g c = λ o w a b s t x y. one_search (g.O.Order.meaning c.args.order.now) (g.met.O.Order.laws c.args.order.now) o w a b s t x y
