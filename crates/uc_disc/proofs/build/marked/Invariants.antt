use Rattle.std.proofs.Common.{◌-◌, length}
use Rattle.uc_disc.proofs.Marking.{Seen}
use Rattle.uc_disc.proofs.build.marked.Given as goal

abbrev pub invariant-loop-skip : goal.invariant-loop-skip
invariant-loop-skip l = Seen l.places l.i l.depth l.skip l.least

abbrev pub decreases-loop-skip : goal.decreases-loop-skip
decreases-loop-skip l = length l.places - l.skip
