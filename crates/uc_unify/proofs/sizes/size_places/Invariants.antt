use Rattle.std.proofs.Common.{◌≤◌, length}
use Rattle.uc_unify.specs.Solutions.{AreSized}
use Rattle.uc_unify.proofs.Passing.{Passing}
use Rattle.uc_unify.proofs.sizes.size_places.Given as goal

abbrev pub invariant-loop-place : goal.invariant-loop-place
invariant-loop-place l = record {
  within : l.place ≤ length l.nodes;
  sized : AreSized l.nodes l.classes l.sizes.items;
  passing : Passing l.nodes l.classes l.initial.sizes.items l.sizes.items l.any l.place;
}

abbrev pub decreases-loop-place : goal.decreases-loop-place
decreases-loop-place l = l.place
