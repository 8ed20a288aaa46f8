use Rattle.std.proofs.Common.{◌≡◌, ◌≤◌, drop, None}
use Rattle.uc_edge.specs.Faults.{IsCounted}
use Rattle.uc_problem.proofs.Fetches.{Passed}
use Rattle.uc_problem.proofs.fetch.fetch_first.Given as goal

abbrev pub invariant-loop-name : goal.invariant-loop-name
invariant-loop-name g l = record {
  same : g.L.Library.holds l.library ≡ g.L.Library.holds l.fn.library;
  later : g.L.Library.faults l.fn.library ≤ g.L.Library.faults l.library;
  counted : IsCounted None (g.L.Library.faults l.fn.library) (g.L.Library.faults l.library) (g.L.Library.failed_at l.fn.library) (g.L.Library.failed_at l.library);
  passed : Passed (g.L.Library.holds l.fn.library) l.names (drop l.name-index l.names);
}
