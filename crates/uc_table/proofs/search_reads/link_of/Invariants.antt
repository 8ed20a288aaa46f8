use Rattle.std.proofs.Common.{◌≡◌, ◌≤◌, drop}
use Rattle.uc_table.specs.SearchReads.{link_of, further}
use Rattle.uc_table.proofs.search_reads.link_of.Given as goal

abbrev pub invariant-loop-step : goal.invariant-loop-step
invariant-loop-step l = record {
  is : link_of l.size l.steps 0 ≡ further l.target (link_of l.size (drop l.step-index l.steps) l.depth);
  deep : l.depth ≤ l.step-index;
  far : l.target ≤ l.step-index;
}
