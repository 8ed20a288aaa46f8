use Rattle.std.proofs.Common.{◌≡◌, ◌≤◌, length, drop}
use Rattle.uc_table.specs.Algebras.{operation, given}
use Rattle.uc_table.specs.Evaluating.{values_on}
use Rattle.uc_table.proofs.evaluating.value_of.Given as goal

abbrev pub invariant-loop-at : goal.invariant-loop-at
invariant-loop-at l = (l.at ≤ length l.list) × (l.top ≤ length l.stack) × (drop l.top l.stack ≡ values_on (operation l.table) (given l.values) (drop l.at l.list)) × (length l.stack ≡ length l.initial.stack)

abbrev pub decreases-loop-at : goal.decreases-loop-at
decreases-loop-at l = l.at
