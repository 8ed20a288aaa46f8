use Rattle.uc_order.specs.Members.{In, Each}
use Rattle.uc_order.specs.VarOrders.{orders_of}
use Rattle.uc_fact.specs.declared.joinable.Joinable.{Joinable}
use Rattle.uc_ground.specs.Orders.{others_of}
use Rattle.uc_ground.specs.Joining.{IsTriedUnder}
use Rattle.uc_ground.proofs.join.join_under_others.Given as goal

abbrev pub invariant-loop-cases : goal.invariant-loop-cases
invariant-loop-cases g l =
    (goal.iterator-loop-cases g).can_next l.cases-iterator ×
    (goal.iterator-loop-cases g).is_finite l.cases-iterator ×
    Each (In (orders_of l.fn.vars)) l.cases-iterator.rest.items ×
    ((answer : Joinable) → IsTriedUnder (g.O.Order.meaning l.fn.order) (g.I.Index.live l.fn.index) l.fn.s l.fn.t l.cases-iterator.rest.items answer → IsTriedUnder (g.O.Order.meaning l.fn.order) (g.I.Index.live l.fn.index) l.fn.s l.fn.t (others_of l.fn.vars) answer)
