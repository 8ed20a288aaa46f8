use Rattle.std.proofs.Common.{◌≡◌, length, sym, ap, ap₂, ◌∙◌, subst, arith}
use Rattle.uc_shelf.specs.Segments.{Falls, values_of}
use Rattle.uc_shelf.proofs.Segmented.{whole, same_entries, same_homes, same_sizes, same_based}
use Rattle.uc_shelf.proofs.front.Front.copy.Goals as goal

pub invariant_of-result : goal.invariant_of-result
invariant_of-result c =
    let ps = c.self.inside.segments.items in
    let qs = c.loop-segment.segments.items in
    let same : values_of ps ≡ values_of qs = ap values_of (sym c.deref-segment-items.ensures.value) ∙ sym (ap values_of (whole c.loop-segment.segment-index c.deref-segment-items.result.now (omega (arith, c.loop-segment-test.false)))) ∙ sym c.loop-segment.invariant in (
      c.self.invariant.0 ∙ ap length (same_entries ps qs same),
      c.self.invariant.1,
      same_based 0 ps qs same c.self.invariant.2,
      subst (Falls 32 0) (same_sizes ps qs same) c.self.invariant.3,
    )

pub returns : goal.returns
returns c =
    let ps = c.self.inside.segments.items in
    let qs = c.loop-segment.segments.items in
    let same : values_of qs ≡ values_of ps = c.loop-segment.invariant ∙ ap values_of (whole c.loop-segment.segment-index c.deref-segment-items.result.now (omega (arith, c.loop-segment-test.false))) ∙ ap values_of c.deref-segment-items.ensures.value in
    rw (← c.self.view_is) (ap₂ (λ es hs. record { entries = es; homes = hs }) (same_entries qs ps same) (same_homes qs ps same))
