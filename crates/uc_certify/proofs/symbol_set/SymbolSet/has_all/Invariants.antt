use Rattle.std.proofs.Common.{take}
use Rattle.uc_order.specs.Members.{Each}
use Rattle.uc_certify.specs.Knowing.{HasNumber}
use Rattle.uc_certify.proofs.symbol_set.SymbolSet.has_all.Given as goal

abbrev pub invariant-loop-f : goal.invariant-loop-f
invariant-loop-f l = Each (HasNumber l.self.numbers.keys) (take l.f-index l.symbols)
