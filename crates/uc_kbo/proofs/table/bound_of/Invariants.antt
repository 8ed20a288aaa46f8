use Rattle.std.proofs.Common.{◌<◌, take}
use Rattle.uc_kbo.specs.declared.weights.Weighed.{Weighed}
use Rattle.uc_order.specs.Members.{Each}
use Rattle.uc_kbo.proofs.table.bound_of.Given as goal

abbrev pub invariant-loop-e : goal.invariant-loop-e
invariant-loop-e l = Each (λ (e : Weighed). e.symbol.0 < l.bound) (take l.e-index l.entries)
