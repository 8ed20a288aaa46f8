use Rattle.uc_term.proofs.TakenNames.{more_names}
use Rattle.uc_term.proofs.fresh_symbol.taken_names.Goals as goal

pub loop-f-preserved : goal.loop-f-preserved
loop-f-preserved c = more_names c.args.symbols.now c.args.taken.now c.loop-f.f-index (record { 0 = 0 }) c.loop-f.names c.insert.new.self c.name.result.now c.in_ok-insert.field-0 c.loop-f-test.true c.name.ensures c.loop-f.invariant c.in_ok-insert.ensures.place c.in_ok-insert.ensures.adds
