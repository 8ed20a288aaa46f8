use Rattle.std.proofs.Common.{◌≡◌, ◌++◌, reverse, length}
use Rattle.uc_clause.specs.Marks.{closing}
use Rattle.uc_clause.proofs.printer.write_closing.Given as goal

abbrev pub invariant-loop-left : goal.invariant-loop-left
invariant-loop-left l = record {
  text : l.out ++ (closing (reverse l.pending.items)).text ≡ l.initial.out ++ (closing (reverse l.initial.pending.items)).text;
  pending : (closing (reverse l.pending.items)).pending ≡ (closing (reverse l.initial.pending.items)).pending;
}

abbrev pub decreases-loop-left : goal.decreases-loop-left
decreases-loop-left l = length l.pending.items
