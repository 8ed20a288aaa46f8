use Rattle.std.proofs.Common.{◌≡◌, ◌≤◌, ◌-◌}
use Rattle.uc_certificate.specs.JoinLines.{first_foreign}
use Rattle.uc_certificate.proofs.terms.first_foreign.Given as goal

abbrev pub invariant-loop-at : goal.invariant-loop-at
invariant-loop-at l = record {
  low : l.from ≤ l.at;
  same : first_foreign l.bytes l.tokens (l.to - l.from) l.from ≡ first_foreign l.bytes l.tokens (l.to - l.at) l.at;
}
