use Rattle.std.proofs.Common.{◌≤◌, length}
use Rattle.uc_unify.specs.Closure.{AreEndsFrom}
use Rattle.uc_unify.proofs.ends.ends_of.Given as goal

abbrev pub invariant-loop-place : goal.invariant-loop-place
invariant-loop-place l = record {
  within : l.place ≤ length l.nodes;
  ends : AreEndsFrom l.nodes l.place l.ends.items;
}

abbrev pub decreases-loop-place : goal.decreases-loop-place
decreases-loop-place l = l.place
