use Rattle.std.proofs.Common.{refl, arith}
use Rattle.uc_order.specs.VarOrders.{representative}
use Rattle.uc_lpo.proofs.Ends.{more_common}
use Rattle.uc_lpo.proofs.levels.first_difference.Goals as goal

pub loop-at-preserved : goal.loop-at-preserved
loop-at-preserved c = record {
  in_s = omega arith;
  in_t = omega arith;
  common = more_common (representative c.args.classes.now) c.args.s.now c.args.t.now c.loop-at.at _ _ c.loop-at-test.true c.if-at-t.true (c.if-not-is_alike.ensures.0 refl) c.loop-at.invariant.common;
}
