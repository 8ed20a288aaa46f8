use Rattle.uc_task.proofs.Parting.{none_by_left, none_by_right, none_by_neither, none_by_either}
use Rattle.uc_task.proofs.parts.may_step_by.Goals as goal

pub returns-in-Greater : goal.returns-in-Greater
returns-in-Greater g c = λ e. none_by_left (g.O.Order.meaning c.args._order.now) (g.met.O.Order.laws c.args._order.now) c.args.equation.now c.args.term.now (c.requires.greater.0 c.in-Greater.is) (c.has_part.ensures e)

pub returns-in-Less : goal.returns-in-Less
returns-in-Less g c = λ e. none_by_right (g.O.Order.meaning c.args._order.now) (g.met.O.Order.laws c.args._order.now) c.args.equation.now c.args.term.now (c.requires.less.0 c.in-Less.is) (c.has_part-in-Less.ensures e)

pub returns-in-Equal : goal.returns-in-Equal
returns-in-Equal g c = λ e. none_by_neither (g.O.Order.meaning c.args._order.now) (g.met.O.Order.laws c.args._order.now) c.args.equation.now c.args.term.now (c.requires.equal.0 c.in-Equal.is)

pub returns-else-has_part : goal.returns-else-has_part
returns-else-has_part g c = λ e. none_by_either (g.O.Order.meaning c.args._order.now) (g.met.O.Order.laws c.args._order.now) c.args.equation.now c.args.term.now (c.has_part-in-Unknown.ensures c.if-has_part.false) (c.has_part-else-has_part.ensures e)
