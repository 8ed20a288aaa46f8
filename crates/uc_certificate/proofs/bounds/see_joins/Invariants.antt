use Rattle.std.proofs.Common.{take}
use Rattle.std.specs.List.{AllByRecursion}
use Rattle.uc_certificate.specs.Bounds.{IsBoundedJoin}
use Rattle.uc_certificate.proofs.bounds.see_joins.Given as goal

abbrev pub invariant-loop-join : goal.invariant-loop-join
invariant-loop-join l = AllByRecursion IsBoundedJoin (take l.join-index l.joins)
