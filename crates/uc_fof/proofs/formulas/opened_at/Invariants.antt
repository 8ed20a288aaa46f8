use Rattle.std.proofs.Common.{◌≤◌, ◌-◌, length}
use Rattle.uc_fof.specs.Given.{Leads}
use Rattle.uc_fof.proofs.formulas.opened_at.Given as goal

abbrev pub invariant-openings : goal.invariant-openings
invariant-openings l = record {
  few : l.opened.brackets ≤ 16;
  leads : Leads l.bytes l.tokens l.conjecture l.from l.opened.brackets l.opened.bound l.opened.at;
}

abbrev pub decreases-openings : goal.decreases-openings
decreases-openings l = length l.tokens - l.opened.at
