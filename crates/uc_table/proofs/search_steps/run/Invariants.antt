use Rattle.std.proofs.Common.{◌≡◌, ◌+◌, ◌≤◌, [], length, drop}
use Rattle.uc_table.specs.Tables.{AreValues}
use Rattle.uc_table.specs.SearchSteps.{run}
use Rattle.uc_table.proofs.search_steps.run.Given as goal

abbrev pub invariant-loop-step : goal.invariant-loop-step
invariant-loop-step l = record {
  ran : run l.size l.assignment l.prefix l.steps [] ≡ run l.size l.assignment l.prefix (drop l.step-index l.steps) (drop l.top l.stack);
  room : length l.steps ≤ l.top + l.step-index;
  within : l.top ≤ length l.stack;
  live : AreValues l.size (drop l.top l.stack);
}
