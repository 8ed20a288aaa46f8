use Rattle.std.proofs.Common.{◌≡◌, ◌+◌, ◌≤◌, ◌++◌, [], length, drop}
use Rattle.uc_table.specs.Tables.{AreValues}
use Rattle.uc_table.specs.SearchReads.{places, LeavesTwo}
use Rattle.uc_table.proofs.search_reads.add_row.Given as goal

abbrev pub invariant-loop-step : goal.invariant-loop-step
invariant-loop-step l = record {
  row : l.fn.row.items ++ places l.size l.assignment l.steps [] ≡ l.row.items ++ places l.size l.assignment (drop l.step-index l.steps) (drop l.top l.stack);
  leaves : LeavesTwo (drop l.step-index l.steps) (length (drop l.top l.stack)) → LeavesTwo l.steps 0;
  room : length l.steps ≤ l.top + l.step-index;
  within : l.top ≤ length l.stack;
  live : AreValues l.size (drop l.top l.stack);
}
