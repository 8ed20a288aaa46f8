use Rattle.std.proofs.Common.{◌-◌, length}
use Rattle.uc_disc.specs.Heads.{AreHeads}
use Rattle.uc_disc.proofs.heads.heads_of.Given as goal

abbrev pub invariant-loop-i : goal.invariant-loop-i
invariant-loop-i l = AreHeads l.places l.heads.items l.i

abbrev pub decreases-loop-i : goal.decreases-loop-i
decreases-loop-i l = length l.places - l.i
