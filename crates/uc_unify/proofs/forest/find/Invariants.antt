use Rattle.std.proofs.Common.{◌≡◌, ◌<◌, ℕ, length}
use Rattle.uc_unify.specs.Forest.{AreSameTrees, IsLabelling}
use Rattle.uc_unify.proofs.forest.find.Given as goal

abbrev pub invariant-loop-root : goal.invariant-loop-root
invariant-loop-root l = record {
  within : l.root < length l.parents.items;
  same : AreSameTrees l.initial.parents.items l.parents.items;
  label : (label : ℕ → ℕ) → IsLabelling l.initial.parents.items label → label l.root ≡ label l.place;
}

abbrev pub decreases-loop-root : goal.decreases-loop-root
decreases-loop-root l = l.root
