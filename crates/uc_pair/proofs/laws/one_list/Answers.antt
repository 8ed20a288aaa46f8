use Rattle.uc_pair.proofs.Uniqueness.{same_each}
use Rattle.uc_pair.proofs.laws.one_list.Goals as goal

pub returns : goal.returns
returns g c i a j b x y = same_each (g.O.Order.meaning c.args.order.now).greater _ x y
