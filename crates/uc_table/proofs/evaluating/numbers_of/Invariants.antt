use Rattle.std.proofs.Common.{◌≡◌, ◌≤◌, length, drop}
use Rattle.uc_table.proofs.Numbering.{AreNumbersFrom}
use Rattle.uc_table.proofs.evaluating.numbers_of.Given as goal

abbrev pub invariant-loop-at : goal.invariant-loop-at
invariant-loop-at l = (l.at ≤ length l.among) × AreNumbersFrom l.at (drop l.at l.among) l.numbers.items × (length l.numbers.items ≡ length l.symbols)

abbrev pub decreases-loop-at : goal.decreases-loop-at
decreases-loop-at l = l.at
