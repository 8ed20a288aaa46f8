use Rattle.std.proofs.Common.{length, ◌-◌}
use Rattle.uc_pair.specs.Fitting.{MeetFrom}
use Rattle.uc_pair.proofs.fitting.fits.Given as goal

abbrev pub invariant-loop-p : goal.invariant-loop-p
invariant-loop-p l = MeetFrom l.s l.t l.p l.q

abbrev pub decreases-loop-p : goal.decreases-loop-p
decreases-loop-p l = length l.s - l.p
