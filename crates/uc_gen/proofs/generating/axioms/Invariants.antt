use Rattle.std.proofs.Common.{◌≡◌, ◌*◌, ◌<◌, ◌^◌}
use Rattle.uc_gen.specs.Sequence.{after}
use Rattle.uc_gen.specs.Generated.{first_axioms}
use Rattle.uc_gen.proofs.generating.axioms.Given as goal

abbrev pub invariant-loop-number : goal.invariant-loop-number
invariant-loop-number l = record {
  state : l.state ≡ after l.start (2 * l.number);
  small : l.state < 2 ^ 31;
  axioms : l.axioms ≡ first_axioms l.constants l.start l.function l.number;
}
