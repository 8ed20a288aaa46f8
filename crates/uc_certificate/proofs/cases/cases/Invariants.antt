use Rattle.std.proofs.Common.{◌≡◌, ◌+◌, ◌-◌, length}
use Rattle.uc_term.specs.Table.{Grows}
use Rattle.uc_certificate.specs.JoinLines.{case}
use Rattle.uc_certificate.specs.JoinMeaning.{MeansCase}
use Rattle.uc_certificate.proofs.JoinLoops.{Kept}
use Rattle.uc_certificate.specs.Interning.{with_case}
use Rattle.uc_certificate.proofs.cases.cases.Given as goal

abbrev pub invariant-members : goal.invariant-members
invariant-members l = record {
  keeps : Kept l.bytes l.tokens (case l.bytes l.tokens) (MeansCase l.bytes l.tokens) (with_case l.bytes l.tokens) l.from l.fn.symbols l.more l.at l.symbols l.list;
  grows : Grows l.fn.symbols l.symbols;
  same : l.variables ≡ l.fn.variables;
}

abbrev pub decreases-members : goal.decreases-members
decreases-members l = length l.tokens + 1 - l.at
