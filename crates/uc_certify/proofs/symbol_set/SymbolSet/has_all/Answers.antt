use Rattle.uc_certify.specs.Knowing.{HasNumber}
use Rattle.uc_certify.proofs.Lists.{not_of, never, always, get_member, each_end, in_each}
use Rattle.uc_certify.proofs.symbol_set.SymbolSet.has_all.Goals as goal

pub returns-then-not-has : goal.returns-then-not-has
returns-then-not-has c = never (λ all. not_of c.has.result c.if-not-has.true c.has.ensures (all _ (get_member c.args.symbols.now c.loop-f.f-index _ c.loop-f-test.true)))

pub returns : goal.returns
returns c = always (in_each (HasNumber c.args.self.now.numbers.keys) c.args.symbols.now (each_end (HasNumber c.args.self.now.numbers.keys) c.args.symbols.now c.loop-f.f-index c.loop-f-test.false c.loop-f.invariant))
