use Rattle.std.proofs.Common.{◌≡◌, ◌+◌, length}
use Rattle.uc_table.specs.SearchReads.{AreRowsOf, links_of}
use Rattle.uc_table.proofs.search_reads.kept_rows.Given as goal

abbrev pub invariant-loop-assignment : goal.invariant-loop-assignment
invariant-loop-assignment l = record {
  rows : AreRowsOf l.size l.steps (length (links_of l.size l.steps) + 2) l.assignment l.rows.items;
  room : length l.stack ≡ length l.steps;
}
