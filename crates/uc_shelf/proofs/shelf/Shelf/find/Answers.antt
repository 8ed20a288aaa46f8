use Rattle.std.proofs.Common.{◌≡◌, ◌<◌, Some, slice_get, length, sym, ap, ◌∙◌, subst}
use Rattle.uc_shelf.specs.Fronts.{AreAt}
use Rattle.uc_shelf.specs.Segments.{Stretch}
use Rattle.uc_shelf.proofs.Places.{home_here, within_some}
use Rattle.uc_shelf.proofs.Segmented.{homes_here, nth_segment}
use Rattle.uc_shelf.proofs.shelf.Shelf.find.Goals as goal

pub entry_at-requires : goal.entry_at-requires
entry_at-requires c =
    let s = c.deref-then-left-size.result.now in
    let p = c.index-segments-i-then-left-size.result in
    let own : AreAt c.args.self.now s.homes = subst (λ (z : Stretch). AreAt c.args.self.now z.homes) (sym c.deref-then-left-size.ensures) (homes_here c.args.self.now c.args.segments.now c.loop-i.i p c.loop-i-test.true c.index-segments-i-then-left-size.is c.requires.of) in
    home_here c.args.self.now s.homes c.loop-i.left c.place.result.now.bucket c.place.result.now.row own (within_some s.homes c.loop-i.left (c.place.result.now.bucket, c.place.result.now.row) c.place.ensures.home) c.place.ensures.home

pub returns-then-left-size : goal.returns-then-left-size
returns-then-left-size c =
    let p = c.index-segments-i-then-left-size.result in
    let s = c.deref-then-left-size.result.now in
    let place : slice_get p.value.entries c.loop-i.left ≡ Some c.place.result.now.value = ap (λ (z : Stretch). slice_get z.entries c.loop-i.left) (sym c.deref-then-left-size.ensures) ∙ c.place.ensures.value in
    let less : c.loop-i.left < length p.value.entries = within_some p.value.entries c.loop-i.left c.place.result.now.value place in
    ap Some c.entry_at.ensures ∙ sym place ∙ sym (nth_segment c.args.segments.now c.loop-i.i p c.args.k c.loop-i.left c.loop-i-test.true c.index-segments-i-then-left-size.is c.loop-i.invariant less)
