use Rattle.std.proofs.Common.{sym}
use Rattle.uc_shelf.proofs.Places.{front_more}
use Rattle.uc_shelf.proofs.shelf.Shelf.same_entries.Goals as goal

pub loop-k-preserved : goal.loop-k-preserved
loop-k-preserved c = front_more c.args.a.now.entries c.args.b.now.entries c.loop-k.k c.read.result.now c.read-in-loop-k.result.now (sym c.read.ensures) (sym c.read-in-loop-k.ensures) (c.same.ensures.0 c.if-not-same.false) c.loop-k.invariant
