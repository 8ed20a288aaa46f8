use Rattle.std.proofs.Common.{◌≤◌, length, drop}
use Rattle.uc_system.specs.Written.{HasNoSpace}
use Rattle.uc_system.proofs.symbols.split_last.Given as goal

abbrev pub invariant-loop-end : goal.invariant-loop-end
invariant-loop-end l = record {
  within : l.end ≤ length l.text;
  none : HasNoSpace (drop l.end l.text);
}

abbrev pub decreases-loop-end : goal.decreases-loop-end
decreases-loop-end l = l.end
