use Rattle.std.proofs.Common.{take}
use Rattle.std.specs.List.{AllByRecursion}
use Rattle.uc_tstp.specs.Bounds.{IsBoundedLine}
use Rattle.uc_certificate.proofs.bounds.see_lines.Given as goal

abbrev pub invariant-loop-line : goal.invariant-loop-line
invariant-loop-line l = AllByRecursion IsBoundedLine (take l.line-index l.lines)
