use Rattle.uc_order.specs.VarOrders.{orders_of}
use Rattle.uc_certify.proofs.MadeEnds.{Casing}
use Rattle.uc_certify.proofs.ending.cases_of.Given as goal

abbrev pub invariant-loop-cases : goal.invariant-loop-cases
invariant-loop-cases g l =
    (goal.iterator-loop-cases g).can_next l.cases-iterator ×
    (goal.iterator-loop-cases g).is_finite l.cases-iterator ×
    Casing (g.O.Order.meaning l.fn.order) (g.I.Index.live l.fn.index) l.fn.s l.fn.t (orders_of l.vars.items) l.cases-iterator.rest.items l.list.items
