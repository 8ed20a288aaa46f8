use Rattle.std.proofs.Common.{arith, sym}
use Rattle.uc_kbo.proofs.Covering.{sum_before, so_far_more, so_far_rest, sum_rest}
use Rattle.uc_kbo.proofs.covers.has_from.Goals as goal

pub loop-at-init : goal.loop-at-init
loop-at-init c = record {
  within = c.requires.within;
  ours = sym (sum_rest c.args.a.now.counts c.args.end c.requires.a c.requires.a_rest c.args.end (omega arith) c.requires.within);
  theirs = sym (sum_rest c.args.b.now.counts c.args.end c.requires.b c.requires.b_rest c.args.end (omega arith) c.requires.within);
  ours_small = omega arith;
  theirs_small = omega arith;
  so_far = so_far_rest c.args.a.now.counts c.args.b.now.counts c.args.end c.requires.a c.requires.b c.requires.a_rest c.requires.b_rest;
}

pub loop-at-preserved : goal.loop-at-preserved
loop-at-preserved c =
    let i = c.loop-at.invariant in
    let ours = sum_before c.args.a.now.counts c.loop-at.at c.loop-at-test.true (omega (arith, c.requires.a, i.within)) in
    let theirs = sum_before c.args.b.now.counts c.loop-at.at c.loop-at-test.true (omega (arith, c.requires.b, i.within)) in
    record {
      within = omega (arith, i.within);
      ours = omega (arith, ours, i.ours);
      theirs = omega (arith, theirs, i.theirs);
      ours_small = omega (arith, i.ours_small, i.within);
      theirs_small = omega (arith, i.theirs_small, i.within);
      so_far = so_far_more c.args.a.now.counts c.args.b.now.counts c.loop-at.at (omega (arith, ours, theirs, i.ours, i.theirs, c.if-ours-theirs.false)) i.so_far;
    }
