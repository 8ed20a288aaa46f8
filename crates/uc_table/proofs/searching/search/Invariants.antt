use Rattle.std.proofs.Common.{◌+◌, ◌-◌, ◌≤◌}
use Rattle.uc_table.specs.Searching.{IsReached}
use Rattle.uc_table.proofs.searching.search.Given as goal

abbrev pub invariant-loop-at : goal.invariant-loop-at
invariant-loop-at l = record {
  reached : IsReached l.symbols l.problem.signature.symbols l.problem.clauses l.budget l.at l.visited;
  few : l.visited ≤ l.budget;
  within : l.at ≤ l.size + 1;
}

abbrev pub decreases-loop-at : goal.decreases-loop-at
decreases-loop-at l = l.size + 1 - l.at
