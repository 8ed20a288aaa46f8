use Rattle.std.proofs.Common.{◌≡◌, take}
use Rattle.uc_tstp.specs.Printing.{names_in}
use Rattle.uc_certificate.specs.FactNames.{names_of}
use Rattle.uc_certificate.proofs.fact_names.names_of.Given as goal

abbrev pub invariant-loop-line : goal.invariant-loop-line
invariant-loop-line l = names_of l.names.keys ≡ take l.line-index (names_in l.lines)
