use Rattle.std.proofs.Common.{◌≡◌}
use Rattle.uc_term.specs.Table.{Grows}
use Rattle.uc_gen.specs.Generated.{AreConstants, with_constants}
use Rattle.uc_gen.proofs.generating.constants.Given as goal

abbrev pub invariant-loop-number : goal.invariant-loop-number
invariant-loop-number l = record {
  are : AreConstants l.symbols l.number l.constants.items;
  interns : l.symbols ≡ with_constants l.fn.symbols l.number;
  grows : Grows l.fn.symbols l.symbols;
}
