use Rattle.std.proofs.Common.{◌-◌, ◌≤◌, length}
use Rattle.uc_disc.specs.Heads.{IsRoot}
use Rattle.uc_disc.proofs.heads.first_head.Given as goal

abbrev pub invariant-loop-i : goal.invariant-loop-i
invariant-loop-i l = (l.i ≤ length l.places) × IsRoot l.places l.i

abbrev pub decreases-loop-i : goal.decreases-loop-i
decreases-loop-i l = length l.places - l.i
