use Rattle.std.proofs.Common.{length, ◌-◌}
use Rattle.uc_unify.specs.Walking.{ReducedFrom}
use Rattle.uc_unify.proofs.walking.walk.Given as goal

abbrev pub invariant-loop-p : goal.invariant-loop-p
invariant-loop-p l = ReducedFrom l.s l.t l.p l.q l.subst

abbrev pub decreases-loop-p : goal.decreases-loop-p
decreases-loop-p l = length l.s - l.p
