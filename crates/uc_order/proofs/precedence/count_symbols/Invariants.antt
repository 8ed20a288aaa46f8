use Rattle.std.proofs.Common.{◌≡◌, slice_index, length, take}
use Rattle.uc_term.specs.declared.node.Sym.{Sym}
use Rattle.uc_order.specs.Members.{times}
use Rattle.uc_order.proofs.precedence.count_symbols.Given as goal

abbrev pub invariant-loop-i : goal.invariant-loop-i
invariant-loop-i l = (length l.counts.items ≡ length l.initial.counts.items) × ((f : Sym) → slice_index l.counts.items f.0 ≡ times f (take l.i l.list))
