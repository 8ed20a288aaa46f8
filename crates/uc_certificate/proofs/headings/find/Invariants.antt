use Rattle.std.proofs.Common.{ℕ, ◌-◌, ◌+◌, ◌≤◌, length}
use Rattle.uc_certificate.specs.Headings.{is_border, FirstLine}
use Rattle.uc_certificate.proofs.headings.find.Given as goal

abbrev pub invariant-lines : goal.invariant-lines
invariant-lines l = record {
  within : l.at ≤ length l.text + 1;
  low : l.from ≤ l.at;
  leads : (to : ℕ) → FirstLine l.text (is_border l.border) l.at to → FirstLine l.text (is_border l.border) l.from to;
}

abbrev pub decreases-lines : goal.decreases-lines
decreases-lines l = length l.text + 1 - l.at
