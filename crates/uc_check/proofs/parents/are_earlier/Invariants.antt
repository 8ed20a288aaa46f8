use Rattle.std.proofs.Common.{◌↔◌, drop}
use Rattle.uc_check.specs.Lines.{AreEarlier}
use Rattle.uc_check.proofs.parents.are_earlier.Given as goal

abbrev pub invariant-loop-parent : goal.invariant-loop-parent
invariant-loop-parent l = AreEarlier l.number l.parents ↔ AreEarlier l.number (drop l.parent-index l.parents)
