use Rattle.std.proofs.Common.{sym, subst, arith}
use Rattle.uc_shelf.specs.Fronts.{AreAt}
use Rattle.uc_shelf.specs.Segments.{Stretch}
use Rattle.uc_shelf.proofs.Segmented.{homes_here}
use Rattle.uc_shelf.proofs.shelf.Shelf.same_places.Goals as goal

pub same_segment-requires-clause-a_of : goal.same_segment-requires-clause-a_of
same_segment-requires-clause-a_of c = subst (λ (z : Stretch). AreAt c.args.self.now z.homes) (sym c.deref.ensures) (homes_here c.args.self.now c.args.a.now c.loop-k.k c.index-a-k.result c.loop-k-test.true c.index-a-k.is c.requires.a_of)

pub same_segment-requires-clause-b_of : goal.same_segment-requires-clause-b_of
same_segment-requires-clause-b_of c = subst (λ (z : Stretch). AreAt c.args.self.now z.homes) (sym c.deref-in-loop-k.ensures) (homes_here c.args.self.now c.args.b.now c.loop-k.k c.index-b-k.result (omega (arith, c.loop-k-test.true, c.loop-k.invariant.long)) c.index-b-k.is c.requires.b_of)
