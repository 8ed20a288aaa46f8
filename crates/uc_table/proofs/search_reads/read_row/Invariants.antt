use Rattle.std.proofs.Common.{◌≡◌, ◌+◌, ◌-◌, ◌≤◌, length, drop}
use Rattle.uc_table.specs.SearchReads.{filled, Fits}
use Rattle.uc_table.proofs.search_reads.read_row.Given as goal

abbrev pub invariant-loop-at : goal.invariant-loop-at
invariant-loop-at l = record {
  filled_is : filled l.prefix l.row l.links ≡ filled l.prefix (drop l.at l.places) (drop l.at l.links);
  fits : Fits l.prefix (drop l.at l.places) (drop l.at l.links);
  long : length l.places ≡ length l.links + 2;
  within : l.at ≤ length l.links;
}

abbrev pub decreases-loop-at : goal.decreases-loop-at
decreases-loop-at l = length l.links - l.at
