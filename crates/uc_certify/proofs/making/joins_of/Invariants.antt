use Rattle.uc_certify.proofs.MadeJoins.{Joining}
use Rattle.uc_certify.proofs.making.joins_of.Given as goal

abbrev pub invariant-loop-member : goal.invariant-loop-member
invariant-loop-member g l = Joining (g.O.Order.meaning l.fn.order) l.fn.facts l.fn.axioms l.list l.member-index l.joins.items
