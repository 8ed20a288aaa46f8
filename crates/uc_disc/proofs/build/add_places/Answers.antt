use Rattle.uc_disc.proofs.Listed.{stretch_more}
use Rattle.uc_disc.proofs.build.add_places.Goals as goal

pub loop-depth-preserved : goal.loop-depth-preserved
loop-depth-preserved c = stretch_more c.args.labels.now c.shared-from.result c.loop-depth.depth _ c.args.places.now.items c.loop-depth.places.items c.push.new.self.items c.loop-depth.auto.depth c.loop-depth-test.true c.loop-depth.invariant c.in_ok-push.ensures.items
