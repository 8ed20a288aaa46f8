use Rattle.std.proofs.Common.{◌≡◌, ◌++◌, codes, take}
use Rattle.uc_tstp.specs.Printing.{further}
use Rattle.uc_certificate.specs.Printing.{case_text}
use Rattle.uc_certificate.proofs.printing.write_more_cases.Given as goal

abbrev pub invariant-loop-case : goal.invariant-loop-case
invariant-loop-case l = (l.out ≡ l.initial.out ++ further (codes ", ") (case_text l.symbols) (take l.case-index l.cases))
