use Rattle.std.proofs.Common.{false}
use Rattle.uc_unify.specs.Solutions.{AreSized, AllSized}
use Rattle.uc_unify.proofs.Passing.{unsized}
use Rattle.uc_unify.proofs.sizes.sizes_of.Given as goal

abbrev pub invariant-loop-sizes : goal.invariant-loop-sizes
invariant-loop-sizes l = record {
  sized : AreSized l.nodes l.classes l.sizes.items;
  one_has_none : AllSized l.classes l.sizes.items false;
}

abbrev pub decreases-loop-sizes : goal.decreases-loop-sizes
decreases-loop-sizes l = unsized l.sizes.items
