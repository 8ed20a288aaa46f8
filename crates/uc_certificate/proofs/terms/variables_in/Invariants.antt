use Rattle.std.proofs.Common.{◌≡◌, ◌≤◌, ◌<◌, ℕ, Some}
use Rattle.uc_clause.specs.Terminals.{terminal_at, bytes_at}
use Rattle.uc_certificate.specs.JoinLines.{variable_by}
use Rattle.uc_certificate.proofs.terms.variables_in.Given as goal

abbrev pub invariant-loop-at : goal.invariant-loop-at
invariant-loop-at l = record {
  all : (k n : ℕ) → k < l.at → variable_by (terminal_at l.bytes l.tokens k) (bytes_at l.bytes l.tokens k) ≡ Some n → n < l.most;
  few : l.most ≤ 8192;
}
