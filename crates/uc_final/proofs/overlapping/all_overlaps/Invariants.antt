use Rattle.std.proofs.Common.{map}
use Rattle.uc_task.specs.Living.{live_of}
use Rattle.uc_final.proofs.Gathered.{Lacks}
use Rattle.uc_final.proofs.overlapping.all_overlaps.Given as goal

abbrev pub invariant-loop-row : goal.invariant-loop-row
invariant-loop-row g l =
    (goal.iterator-loop-row g).can_next l.row-iterator ×
    (goal.iterator-loop-row g).is_finite l.row-iterator ×
    Lacks (g.O.Order.meaning l.order) (map live_of l.facts) l.facts l.row-iterator.rest.items l.list
