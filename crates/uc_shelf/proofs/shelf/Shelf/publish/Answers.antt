use Rattle.std.proofs.Common.{◌≡◌, ℕ, ◌+◌, ◌<◌, ◌^◌, ◌∷◌, [], ◌++◌, length, take, drop, sym, ap, ◌∙◌, subst, arith, length-append, List}
use Rattle.std.specs.declared.sync.Arc.{Arc}
use Rattle.std.specs.declared.alloc.Global.{Global}
use Rattle.uc_shelf.specs.Entries.{born}
use Rattle.uc_shelf.specs.Fronts.{AreAt}
use Rattle.uc_shelf.specs.Segments.{Stretch, Falls, entries_of, homes_in, sizes_of}
use Rattle.uc_shelf.proofs.Segmented.{entries_put, homes_put, based_put, falls_put}
use Rattle.uc_shelf.proofs.shelf.Shelf.publish.Goals as goal

abbrev Many : Type 0
Many = List (Arc Stretch Global)

pub returns-in_err-segment-2-clause-of : goal.returns-in_err-segment-2-clause-of
returns-in_err-segment-2-clause-of g c =
    let of = rw (← c.front.view_is) at c.requires.of in
    subst (λ (z : Many). AreAt c.args.self.now (homes_in z)) (sym c.reserve.ensures.items) of

pub invariant_of-front-2 : goal.invariant_of-front-2
invariant_of-front-2 g c =
    let ps = c.front.inside.segments.items in
    let k = c.kept-keep.result in
    let p = c.in_ok-segment-2.segment in
    let e : c.push_reserved.new.self.items ≡ take k ps ++ p ∷ [] = c.push_reserved.ensures.items ∙ ap (λ z. z ++ p ∷ []) (c.truncate.ensures.items ∙ ap (take k) c.reserve.ensures.items) in
    let s1 : c.as_slice.result.now ≡ ps = c.as_slice.ensures.value ∙ c.reserve.ensures.items in
    let s2 : c.as_slice-2.result.now ≡ ps = c.as_slice-2.ensures.value ∙ c.reserve.ensures.items in
    let own : p.value.entries ≡ entries_of (drop k ps) ++ c.args.entry ∷ [] = ap (λ (s : Stretch). s.entries) c.in_ok-segment-2.ensures.ok ∙ c.in_ok-segment.ensures.entries_are ∙ ap (λ (z : Many). entries_of (drop k z) ++ c.in_ok-place.place.value ∷ []) s2 ∙ ap (λ z. entries_of (drop k ps) ++ z ∷ []) c.in_ok-place.ensures.value in
    let base : p.value.base ≡ length (born (entries_of (take k ps))) = ap (λ (s : Stretch). s.base) c.in_ok-segment-2.ensures.ok ∙ c.in_ok-segment.ensures.base_is ∙ ap (λ (z : Many). length (born (entries_of (take k z)))) s2 in
    let falls = subst (λ (z : Many). Falls 32 0 (sizes_of (take k z) ++ (length (entries_of (drop k z)) + 1) ∷ [])) s1 c.kept-keep.ensures.falls in
    let room : length (entries_of ps) < 2 ^ 31 = rw (← c.front.view_is) at c.requires.room in
    let more : length (entries_of (take k ps ++ p ∷ [])) ≡ length (entries_of ps) + 1 = ap length (entries_put ps k p c.args.entry own) ∙ length-append (entries_of ps) (c.args.entry ∷ []) in
    rw e (
      omega (arith, more, c.front.invariant.0),
      omega (arith, room, c.front.invariant.0),
      based_put k ps p c.front.invariant.2 base,
      falls_put k ps p c.args.entry own falls,
    )

pub returns-clause-ok : goal.returns-clause-ok
returns-clause-ok g c =
    let ps = c.front.inside.segments.items in
    let k = c.kept-keep.result in
    let p = c.in_ok-segment-2.segment in
    let e : c.push_reserved.new.self.items ≡ take k ps ++ p ∷ [] = c.push_reserved.ensures.items ∙ ap (λ z. z ++ p ∷ []) (c.truncate.ensures.items ∙ ap (take k) c.reserve.ensures.items) in
    let s2 : c.as_slice-2.result.now ≡ ps = c.as_slice-2.ensures.value ∙ c.reserve.ensures.items in
    let own : p.value.entries ≡ entries_of (drop k ps) ++ c.args.entry ∷ [] = ap (λ (s : Stretch). s.entries) c.in_ok-segment-2.ensures.ok ∙ c.in_ok-segment.ensures.entries_are ∙ ap (λ (z : Many). entries_of (drop k z) ++ c.in_ok-place.place.value ∷ []) s2 ∙ ap (λ z. entries_of (drop k ps) ++ z ∷ []) c.in_ok-place.ensures.value in
    rw (← c.front.view_is, e) (entries_put ps k p c.args.entry own)

pub returns-clause-of : goal.returns-clause-of
returns-clause-of g c =
    let ps = c.front.inside.segments.items in
    let k = c.kept-keep.result in
    let p = c.in_ok-segment-2.segment in
    let h : ℕ × ℕ = (c.in_ok-place.place.bucket, c.in_ok-place.place.row) in
    let e : c.push_reserved.new.self.items ≡ take k ps ++ p ∷ [] = c.push_reserved.ensures.items ∙ ap (λ z. z ++ p ∷ []) (c.truncate.ensures.items ∙ ap (take k) c.reserve.ensures.items) in
    let s2 : c.as_slice-2.result.now ≡ ps = c.as_slice-2.ensures.value ∙ c.reserve.ensures.items in
    let own : p.value.homes ≡ homes_in (drop k ps) ++ h ∷ [] = ap (λ (s : Stretch). s.homes) c.in_ok-segment-2.ensures.ok ∙ c.in_ok-segment.ensures.homes_are ∙ ap (λ (z : Many). homes_in (drop k z) ++ h ∷ []) s2 in
    let of = rw (← c.front.view_is) at c.requires.of in
    rw e (homes_put c.args.self.now ps k p h of c.in_ok-place.ensures.here own)
