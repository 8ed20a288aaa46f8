use Rattle.std.proofs.Common.{◌-◌, ◌≤◌, length, Option}
use Rattle.uc_tstp.specs.declared.framing.Span.{Span}
use Rattle.uc_tstp.specs.Framing.{is_border, FirstLine}
use Rattle.uc_tstp.proofs.framing.find.Given as goal

abbrev pub invariant-lines : goal.invariant-lines
invariant-lines l = record {
  within : l.at ≤ length l.text;
  low : l.from ≤ l.at;
  leads : (found : Option Span) → FirstLine (is_border l.border) l.text l.at found → FirstLine (is_border l.border) l.text l.from found;
}

abbrev pub decreases-lines : goal.decreases-lines
decreases-lines l = length l.text - l.at
