use Rattle.uc_search.proofs.Caused.{searched_told}
use Rattle.uc_search.proofs.laws.limits_have_causes.Goals as goal

pub returns : goal.returns
returns g c = λ o w v s few a. searched_told (g.O.Order.meaning c.args.order.now) o w few v s a
