use Rattle.std.proofs.Common.{arith, refl, length}
use Rattle.uc_order.proofs.Places.{two_more, one_last}
use Rattle.uc_order.proofs.listing.place.Goals as goal

pub loop-i-preserved : goal.loop-i-preserved
loop-i-preserved c = (omega arith, two_more c.args.v c.args.order.now c.loop-i.i c.in_ok-alone.field-0 c.in_ok-joined.field-0 c.loop-i.all.items c.push.new.self.items c.push-in-loop-i.new.self.items _ (omega arith) c.in_ok-alone.ensures c.in_ok-joined.ensures c.in_ok-push.ensures.items c.in_ok-push-2.ensures.items c.loop-i.invariant.1)

pub returns : goal.returns
returns c = one_last c.args.v c.args.order.now c.loop-i.i (length c.args.order.now) c.in_ok-alone-2.field-0 c.loop-i.all.items c.push-2.new.self.items _ (omega arith) c.loop-i.invariant.0 refl c.in_ok-alone-2.ensures c.in_ok-push-3.ensures.items c.loop-i.invariant.1
