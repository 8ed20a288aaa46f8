use Rattle.uc_pair.specs.Reading.{rule_read}
use Rattle.uc_pair.proofs.Listed.{ListedBefore, places_left}
use Rattle.uc_pair.proofs.listing.add_inner.Given as goal

abbrev pub invariant-loop-next : goal.invariant-loop-next
invariant-loop-next g l = ListedBefore (g.O.Order.meaning l.order) (rule_read l.outer) (rule_read l.inner) l.initial.list.items l.list.items l.next

abbrev pub decreases-loop-next : goal.decreases-loop-next
decreases-loop-next g l = places_left (g.O.Order.meaning l.order) (rule_read l.outer) (rule_read l.inner) l.next
