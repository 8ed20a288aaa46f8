use Rattle.std.proofs.Common.{arith}
use Rattle.uc_kbo.proofs.Stack.{take_both}
use Rattle.uc_kbo.proofs.climb.first_difference.Goals as goal

pub loop-at-preserved : goal.loop-at-preserved
loop-at-preserved c = record {
  in_s = omega arith;
  in_t = omega arith;
  common = take_both c.args.under c.args.classes.now c.args.s.now c.args.t.now c.loop-at.at _ _ c.read.result c.read-in-loop-at.result c.loop-at-test.true c.if-at-t.true c.read.ensures c.read-in-loop-at.ensures (c.is_same.ensures.0 c.if-not-is_same.false) c.loop-at.invariant.common;
}
