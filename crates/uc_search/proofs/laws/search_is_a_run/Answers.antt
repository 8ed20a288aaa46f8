use Rattle.uc_search.proofs.Rests.{searched_rests, searched_none, search_verdict}
use Rattle.uc_search.proofs.laws.search_is_a_run.Goals as goal

pub returns-clause-run : goal.returns-clause-run
returns-clause-run g c = λ o w v s few a. (searched_rests (g.O.Order.meaning c.args.order.now) o w few v s a).reaches

pub returns-clause-verdict : goal.returns-clause-verdict
returns-clause-verdict g c = λ o w v s a. search_verdict (g.O.Order.meaning c.args.order.now) o w a.start v s a.searches

pub returns-clause-none_out : goal.returns-clause-none_out
returns-clause-none_out g c = λ o w v s a. searched_none (g.O.Order.meaning c.args.order.now) o w v s a
