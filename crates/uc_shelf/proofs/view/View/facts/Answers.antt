use Rattle.std.proofs.Common.{◌≡◌, map, ◌++◌, sym, ap, ◌∙◌, arith}
use Rattle.uc_disc.specs.Numbered.{lives}
use Rattle.uc_disc.specs.Rising.{risen_same}
use Rattle.uc_shelf.specs.Entries.{living, live}
use Rattle.uc_shelf.specs.Lending.{lent_of}
use Rattle.uc_shelf.specs.Segments.{Stretch, entries_of}
use Rattle.uc_shelf.specs.Viewing.{still_living}
use Rattle.uc_shelf.proofs.Lending.{segment_lent}
use Rattle.uc_shelf.proofs.Segmented.{whole}
use Rattle.uc_shelf.proofs.view.View.facts.Goals as goal

pub loop-k-preserved : goal.loop-k-preserved
loop-k-preserved c =
    let ps = c.segments-segments.result.now in
    let es = entries_of ps in
    let p = c.index-segments-k.result in
    let fs = c.facts.result.now in
    let of : lives fs ≡ living p.value.entries p.value.base p.value.entries = ap lives c.facts.ensures.value ∙ sym (risen_same 0 c.tree.result.now c.facts.ensures.rising) ∙ c.tree.ensures ∙ ap (λ (s : Stretch). living s.entries s.base s.entries) c.deref.ensures in
    let self : c.args.self.now ≡ es = sym c.self.view_is ∙ sym c.segments-segments.ensures.entries in
    let more = c.in_ok-add_lent.ensures ∙ ap (λ z. map lent_of c.loop-k.list.items ++ still_living z (lives fs)) self in
    segment_lent ps c.loop-k.k p fs (map lent_of c.loop-k.list.items) (map lent_of c.add_lent.new.list.items) c.segments-segments.ensures.based c.loop-k-test.true c.index-segments-k.is of c.loop-k.invariant more

pub returns : goal.returns
returns c =
    let ps = c.segments-segments.result.now in
    let es = entries_of ps in
    let self : c.args.self.now ≡ es = sym c.self.view_is ∙ sym c.segments-segments.ensures.entries in
    c.loop-k.invariant ∙ ap (λ z. living es 0 (entries_of z)) (whole c.loop-k.k ps (omega (arith, c.loop-k-test.false))) ∙ ap live (sym self)
