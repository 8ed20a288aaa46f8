use Rattle.std.proofs.Common.{arith, refl, get_or}
use Rattle.uc_order.proofs.Places.{grown_more, all_grown}
use Rattle.uc_order.proofs.listing.var_orders.Goals as goal

pub loop-v-preserved : goal.loop-v-preserved
loop-v-preserved c = grown_more c.loop-v.orders.items c.args.vars.now c.args.vars.now c.loop-v.v-index (get_or c.args.vars.now c.loop-v.v-index 0) 0 c.loop-o.grown.items _ (omega arith) refl
    (all_grown (get_or c.args.vars.now c.loop-v.v-index 0) c.loop-v.orders.items c.deref-o-items.result.now c.loop-o.grown.items c.loop-o.o-index c.deref-o-items.ensures.value (omega (arith, c.deref-o-items.ensures.len)) c.loop-o.invariant) c.loop-v.invariant
