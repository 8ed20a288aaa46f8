use Rattle.std.proofs.Common.{◌-◌, ◌≤◌, length}
use Rattle.uc_disc.proofs.heads.count_branches.Given as goal

abbrev pub invariant-loop-i : goal.invariant-loop-i
invariant-loop-i l = (l.count ≤ l.i) × (l.i ≤ length l.places)

abbrev pub decreases-loop-i : goal.decreases-loop-i
decreases-loop-i l = length l.places - l.i
