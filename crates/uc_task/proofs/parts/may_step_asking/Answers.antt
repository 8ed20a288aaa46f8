use Rattle.uc_task.proofs.Parting.{none_by_left, none_by_right, none_by_neither, none_by_either}
use Rattle.uc_task.proofs.parts.may_step_asking.Goals as goal

pub returns-in-Greater : goal.returns-in-Greater
returns-in-Greater g c = λ e. none_by_left (g.O.Order.meaning c.args.order.now) (g.met.O.Order.laws c.args.order.now) c.args.equation.now c.args.term.now (c.way_of.ensures.greater.0 c.in-Greater.is) (c.has_part-left.ensures e)

pub returns-in-Less : goal.returns-in-Less
returns-in-Less g c = λ e. none_by_right (g.O.Order.meaning c.args.order.now) (g.met.O.Order.laws c.args.order.now) c.args.equation.now c.args.term.now (c.way_of.ensures.less.0 c.in-Less.is) (c.has_part-right.ensures e)

pub returns-in-Equal : goal.returns-in-Equal
returns-in-Equal g c = λ e. none_by_neither (g.O.Order.meaning c.args.order.now) (g.met.O.Order.laws c.args.order.now) c.args.equation.now c.args.term.now (c.way_of.ensures.equal.0 c.in-Equal.is)

pub returns-then-not-right : goal.returns-then-not-right
returns-then-not-right g c = λ _. none_by_either (g.O.Order.meaning c.args.order.now) (g.met.O.Order.laws c.args.order.now) c.args.equation.now c.args.term.now (c.has_part-left.ensures c.if-not-left.true) (c.has_part-right.ensures c.if-not-right.true)
