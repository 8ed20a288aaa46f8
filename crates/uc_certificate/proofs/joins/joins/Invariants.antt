use Rattle.std.proofs.Common.{◌+◌, ◌-◌, ◌≤◌, length}
use Rattle.uc_term.specs.Table.{Grows}
use Rattle.uc_certificate.specs.Reads.{AreVariables}
use Rattle.uc_certificate.proofs.JoinGathered.{Gathered}
use Rattle.uc_certificate.proofs.joins.joins.Given as goal

abbrev pub invariant-joins : goal.invariant-joins
invariant-joins l = record {
  gathered : Gathered l.bytes l.tokens l.fn.symbols l.symbols l.list l.at;
  grows : Grows l.fn.symbols l.symbols;
  seen : AreVariables l.bytes l.tokens l.variables;
  behind : length l.list ≤ l.at;
  few : length l.list ≤ length l.tokens;
}

abbrev pub decreases-joins : goal.decreases-joins
decreases-joins l = length l.tokens - l.at
