use Rattle.std.proofs.Common.{◌≡◌, ◌-◌, ◌≤◌, length, drop}
use Rattle.uc_table.specs.Reading.{values_of}
use Rattle.uc_table.proofs.Values.{behind}
use Rattle.uc_table.proofs.reading.values_of.Given as goal

abbrev pub invariant-loop-at : goal.invariant-loop-at
invariant-loop-at l = (l.at ≤ length l.line) × (behind l.values (values_of l.size (drop l.at l.line)) ≡ values_of l.size l.line)

abbrev pub decreases-loop-at : goal.decreases-loop-at
decreases-loop-at l = length l.line - l.at
