use Rattle.uc_lpo.proofs.Ends.{Over}
use Rattle.uc_lpo.proofs.levels.end_of_level.Given as goal

abbrev pub invariant-loop-left : goal.invariant-loop-left
invariant-loop-left l = Over l.list l.to l.count l.end l.left

abbrev pub decreases-loop-left : goal.decreases-loop-left
decreases-loop-left l = l.left
