use Rattle.std.proofs.Common.{◌+◌, ◌≤◌, length}
use Rattle.uc_certificate.proofs.FactsRead.{Counted}
use Rattle.uc_certificate.proofs.fact_names.count_names.Given as goal

abbrev pub invariant-names : goal.invariant-names
invariant-names l = record {
  counted : Counted l.line l.rest l.count;
  few : l.count + length l.rest ≤ length l.line;
}

abbrev pub decreases-names : goal.decreases-names
decreases-names l = length l.rest
