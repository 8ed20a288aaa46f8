use Rattle.std.proofs.Common.{◌≤◌, ◌-◌}
use Rattle.uc_fof.proofs.Openings.{Closed}
use Rattle.uc_fof.proofs.formulas.closed_at.Given as goal

abbrev pub invariant-closings : goal.invariant-closings
invariant-closings l = record {
  few : l.closed ≤ l.brackets;
  closed : Closed l.bytes l.tokens l.conjecture l.brackets l.from (l.brackets - l.closed) l.at;
}

abbrev pub decreases-closings : goal.decreases-closings
decreases-closings l = l.brackets - l.closed
