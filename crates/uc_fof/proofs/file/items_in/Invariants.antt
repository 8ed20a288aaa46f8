use Rattle.std.proofs.Common.{length, ◌-◌}
use Rattle.uc_term.specs.Table.{Grows}
use Rattle.uc_fof.proofs.Gathered.{Gathered}
use Rattle.uc_fof.proofs.file.items_in.Given as goal

abbrev pub invariant-items : goal.invariant-items
invariant-items l = record {
  gathered : Gathered l.bytes l.tokens l.fn.symbols l.symbols l.found.items l.at;
  grows : Grows l.fn.symbols l.symbols;
}

abbrev pub decreases-items : goal.decreases-items
decreases-items l = length l.tokens - l.at
