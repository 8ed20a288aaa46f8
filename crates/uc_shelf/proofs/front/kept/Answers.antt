use Rattle.std.proofs.Common.{◌≡◌, ◌+◌, ◌-◌, ◌*◌, ◌^◌, ◌<◌, ◌≢◌, ◌++◌, ◌∷◌, [], length, take, drop, sym, ◌∙◌, ap, subst, arith}
use Rattle.uc_shelf.specs.Segments.{Stretch, Falls, sizes_of, entries_of}
use Rattle.uc_shelf.proofs.Segmented.{entries_grow, entries_drop, pop, stop, twice}
use Rattle.uc_shelf.proofs.front.kept.Goals as goal

pub loop-keep-preserved : goal.loop-keep-preserved
loop-keep-preserved c =
    let ps = c.args.segments.now in
    let m = c.loop-keep.keep - 1 in
    let p = c.index-segments-keep.result in
    let inv = c.loop-keep.invariant in
    let km : c.loop-keep.keep ≡ m + 1 = omega arith in
    let lt : m < length ps = omega arith in
    let len : length p.value.entries ≡ c.loop-keep.size = ap (λ (s : Stretch). length s.entries) (sym c.deref.ensures) ∙ sym c.len.ensures ∙ c.if-len-size.true in
    let grow = entries_grow ps m p lt c.index-segments-keep.is in
    let falls : Falls 32 inv.falls.0 (sizes_of (take (m + 1) ps)) = subst (λ k. Falls 32 inv.falls.0 (sizes_of (take k ps))) km inv.falls.2 in
    let count : length (entries_of (drop (m + 1) ps)) + 1 ≡ c.loop-keep.size = subst (λ k. length (entries_of (drop k ps)) + 1 ≡ c.loop-keep.size) km inv.falls.3 in
    let bound = entries_drop ps m in
    let double : length (entries_of (drop m ps)) + 1 ≡ c.loop-keep.size * 2 = omega (arith, grow, count, len) in
    record {
      within = omega arith;
      small = omega (arith, double, bound, c.requires.room);
      falls = (inv.falls.0 + 1, twice inv.falls.0 c.loop-keep.size inv.falls.1, pop ps m inv.falls.0 p lt c.index-segments-keep.is falls, double);
    }

pub returns-else-len-size-clause-falls : goal.returns-else-len-size-clause-falls
returns-else-len-size-clause-falls c =
    let ps = c.args.segments.now in
    let m = c.loop-keep.keep - 1 in
    let p = c.index-segments-keep.result in
    let inv = c.loop-keep.invariant in
    let km : c.loop-keep.keep ≡ m + 1 = omega arith in
    let lt : m < length ps = omega arith in
    let differ : length p.value.entries ≢ 2 ^ inv.falls.0 = λ e. c.if-len-size.false (c.len.ensures ∙ ap (λ (s : Stretch). length s.entries) c.deref.ensures ∙ e ∙ sym inv.falls.1) in
    let falls : Falls 32 inv.falls.0 (sizes_of (take (m + 1) ps)) = subst (λ k. Falls 32 inv.falls.0 (sizes_of (take k ps))) km inv.falls.2 in
    let all = stop ps m inv.falls.0 p lt c.index-segments-keep.is falls differ in
    let back : Falls 32 0 (sizes_of (take c.loop-keep.keep ps) ++ 2 ^ inv.falls.0 ∷ []) = subst (λ k. Falls 32 0 (sizes_of (take k ps) ++ 2 ^ inv.falls.0 ∷ [])) (sym km) all in
    subst (λ n. Falls 32 0 (sizes_of (take c.loop-keep.keep ps) ++ n ∷ [])) (sym inv.falls.1 ∙ sym inv.falls.3) back
