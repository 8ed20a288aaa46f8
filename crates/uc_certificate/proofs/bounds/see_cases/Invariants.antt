use Rattle.std.proofs.Common.{take}
use Rattle.std.specs.List.{AllByRecursion}
use Rattle.uc_certificate.specs.Bounds.{IsBoundedCase}
use Rattle.uc_certificate.proofs.bounds.see_cases.Given as goal

abbrev pub invariant-loop-case : goal.invariant-loop-case
invariant-loop-case l = AllByRecursion IsBoundedCase (take l.case-index l.cases)
