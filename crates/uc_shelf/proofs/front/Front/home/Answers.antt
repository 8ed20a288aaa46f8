use Rattle.std.proofs.Common.{◌≡◌, ◌+◌, ◌≤◌, length, take, sym, ap, ◌∙◌, subst, arith}
use Rattle.uc_shelf.specs.Entries.{born}
use Rattle.uc_shelf.specs.Segments.{Stretch, AreBased, entries_of, homes_in}
use Rattle.uc_shelf.specs.Sights.{Sight}
use Rattle.uc_shelf.proofs.Segmented.{home_is, born_ahead}
use Rattle.uc_shelf.proofs.front.Front.home.Goals as goal

pub returns-then-number-base : goal.returns-then-number-base
returns-then-number-base c =
    let ps = c.deref-segment-items.result.now in
    let p = c.segment-item.result in
    let b : AreBased 0 ps = subst (AreBased 0) (sym c.deref-segment-items.ensures.value) c.self.invariant.2 in
    let all = ap (λ (v : Sight). v.entries) (sym c.self.view_is) ∙ ap entries_of (sym c.deref-segment-items.ensures.value) in
    let homes = ap (λ (v : Sight). v.homes) (sym c.self.view_is) ∙ ap homes_in (sym c.deref-segment-items.ensures.value) in
    let base : c.base.result ≡ p.value.base = c.base.ensures.value ∙ ap (λ (s : Stretch). s.base) c.deref.ensures in
    let births : c.births.result ≡ length (born p.value.entries) = c.births.ensures.value ∙ ap (λ (s : Stretch). length (born s.entries)) c.deref-in-loop-segment.ensures in
    home_is c.args.self.now.entries c.args.self.now.homes ps c.loop-segment.segment-index p c.deref-then-number-base.result.now c.args.number all homes c.deref-then-number-base.ensures b c.loop-segment-test.true c.segment-item.is c.loop-segment.invariant (omega (arith, c.if-number-base.true, base, births))

pub loop-segment-preserved : goal.loop-segment-preserved
loop-segment-preserved c =
    let ps = c.deref-segment-items.result.now in
    let p = c.segment-item.result in
    let b : AreBased 0 ps = subst (AreBased 0) (sym c.deref-segment-items.ensures.value) c.self.invariant.2 in
    let base : c.base.result ≡ p.value.base = c.base.ensures.value ∙ ap (λ (s : Stretch). s.base) c.deref.ensures in
    let births : c.births.result ≡ length (born p.value.entries) = c.births.ensures.value ∙ ap (λ (s : Stretch). length (born s.entries)) c.deref-in-loop-segment.ensures in
    let r : length (born (entries_of (take (c.loop-segment.segment-index + 1) ps))) ≤ c.args.number = omega (arith, born_ahead ps c.loop-segment.segment-index p b c.loop-segment-test.true c.segment-item.is, c.if-number-base.false, base, births) in r
