use Rattle.std.proofs.Common.{◌≡◌, ◌++◌, drop}
use Rattle.uc_table.specs.SearchReads.{links_of}
use Rattle.uc_table.proofs.search_reads.links_of.Given as goal

abbrev pub invariant-loop-at : goal.invariant-loop-at
invariant-loop-at l = l.links.items ++ links_of l.size (drop l.at l.steps) ≡ links_of l.size l.steps
