use Rattle.std.proofs.Common.{take}
use Rattle.uc_certify.specs.Testing.{MakeAc}
use Rattle.uc_certify.proofs.ac_ends.symbols_of.Given as goal

abbrev pub invariant-loop-triple : goal.invariant-loop-triple
invariant-loop-triple l = MakeAc l.facts (take l.triple-index l.triples) l.symbols.items
