use Rattle.uc_rewrite.specs.Instances.{always, never_up, never_same}
use Rattle.uc_rewrite.proofs.comparison.told_by_sides.Goals as goal

pub returns-in-Greater : goal.returns-in-Greater
returns-in-Greater g c = always (g.O.Order.meaning c.args.order.now) (g.met.O.Order.laws c.args.order.now) c.args.from.now c.args.to.now (c.compared.ensures.greater.0 c.in-Greater.is)

pub returns-in-Less : goal.returns-in-Less
returns-in-Less g c = never_up (g.O.Order.meaning c.args.order.now) (g.met.O.Order.laws c.args.order.now) c.args.from.now c.args.to.now (c.compared.ensures.less.0 c.in-Less.is)

pub returns-in-Equal : goal.returns-in-Equal
returns-in-Equal g c = never_same (g.O.Order.meaning c.args.order.now) (g.met.O.Order.laws c.args.order.now) c.args.from.now c.args.to.now (c.compared.ensures.equal.0 c.in-Equal.is)
