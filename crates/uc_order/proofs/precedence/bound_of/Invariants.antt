use Rattle.std.proofs.Common.{◌<◌, take}
use Rattle.uc_term.specs.declared.node.Sym.{Sym}
use Rattle.uc_order.specs.Members.{Each}
use Rattle.uc_order.proofs.precedence.bound_of.Given as goal

abbrev pub invariant-loop-f : goal.invariant-loop-f
invariant-loop-f l = Each (λ (f : Sym). f.0 < l.bound) (take l.f-index l.list)
