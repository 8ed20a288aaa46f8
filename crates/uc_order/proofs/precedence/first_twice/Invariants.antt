use Rattle.std.proofs.Common.{◌≤◌, slice_index, take}
use Rattle.uc_term.specs.declared.node.Sym.{Sym}
use Rattle.uc_order.specs.Members.{Each}
use Rattle.uc_order.proofs.precedence.first_twice.Given as goal

abbrev pub invariant-loop-f : goal.invariant-loop-f
invariant-loop-f l = Each (λ (f : Sym). slice_index l.counts f.0 ≤ 1) (take l.f-index l.list)
