use Rattle.std.proofs.Common.{arith}
use Rattle.uc_final.proofs.Selected.{small_next}
use Rattle.uc_final.proofs.selecting.small_origins.Goals as goal

pub loop-formed-preserved : goal.loop-formed-preserved
loop-formed-preserved c = small_next c.args.overlaps.now c.loop-formed.formed-index _ c.loop-formed.list.items c.add_small.new.list.items (omega arith) c.in_ok-add_small.ensures c.loop-formed.invariant
