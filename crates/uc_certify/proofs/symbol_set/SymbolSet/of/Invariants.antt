use Rattle.std.proofs.Common.{take}
use Rattle.uc_certify.specs.Knowing.{IsSetOf}
use Rattle.uc_certify.proofs.symbol_set.SymbolSet.of.Given as goal

abbrev pub invariant-loop-f : goal.invariant-loop-f
invariant-loop-f l = IsSetOf l.numbers.keys (take l.f-index l.symbols)
