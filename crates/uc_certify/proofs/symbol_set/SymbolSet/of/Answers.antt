use Rattle.uc_certify.proofs.Known.{set_more}
use Rattle.uc_certify.proofs.symbol_set.SymbolSet.of.Goals as goal

pub loop-f-preserved : goal.loop-f-preserved
loop-f-preserved c = set_more c.args.symbols.now c.loop-f.f-index _ c.loop-f.numbers.keys c.insert.new.self.keys c.loop-f-test.true c.in_ok-insert.ensures.keys c.loop-f.invariant
