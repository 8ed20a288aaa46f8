use Rattle.std.proofs.Common.{◌≤◌, [], length}
use Rattle.uc_table.specs.SearchWaiting.{IsWell}
use Rattle.uc_table.specs.SearchInstances.{AreOf, AreFormsSettled}
use Rattle.uc_table.proofs.search_instances.enroll_all.Given as goal

abbrev pub invariant-loop-number : goal.invariant-loop-number
invariant-loop-number l = record {
  well : IsWell l.waiting;
  of : AreOf l.forms l.waiting.entries.items;
  settled : AreFormsSettled l.size [] l.forms l.number (length l.forms) l.waiting.entries.items;
  within : l.number ≤ length l.forms;
}

abbrev pub decreases-loop-number : goal.decreases-loop-number
decreases-loop-number l = l.number
