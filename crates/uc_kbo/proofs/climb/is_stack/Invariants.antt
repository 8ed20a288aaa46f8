use Rattle.std.proofs.Common.{length, ◌-◌, ◌≤◌, ◌↔◌, drop}
use Rattle.uc_kbo.specs.Runs.{IsStack, table_weighing, test_by, above_by, read_by}
use Rattle.uc_kbo.proofs.climb.is_stack.Given as goal

abbrev pub invariant-loop-at : goal.invariant-loop-at
invariant-loop-at l = record {
  within : l.at ≤ length l.list;
  left : IsStack (table_weighing l.w.w0 l.w.table.items) (test_by l.under l.classes) (above_by l.under l.classes) (drop l.from (read_by l.under l.classes l.list)) l.x ↔ IsStack (table_weighing l.w.w0 l.w.table.items) (test_by l.under l.classes) (above_by l.under l.classes) (drop l.at (read_by l.under l.classes l.list)) l.x;
}

abbrev pub decreases-loop-at : goal.decreases-loop-at
decreases-loop-at l = length l.list - l.at
