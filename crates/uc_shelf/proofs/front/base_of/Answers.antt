use Rattle.std.proofs.Common.{◌≡◌, ◌+◌, ◌-◌, ◌<◌, length, take, sym, ap, ◌∙◌, arith}
use Rattle.uc_shelf.specs.Entries.{born}
use Rattle.uc_shelf.specs.Segments.{Stretch, entries_of}
use Rattle.uc_shelf.proofs.Segmented.{born_ahead}
use Rattle.uc_shelf.proofs.front.base_of.Goals as goal

pub returns : goal.returns
returns c =
    let ps = c.args.segments.now in
    let m = c.args.keep - 1 in
    let p = c.index-segments-keep.result in
    let km : m + 1 ≡ c.args.keep = omega arith in
    let lt : m < length ps = omega arith in
    let base : c.base.result ≡ p.value.base = c.base.ensures.value ∙ ap (λ (s : Stretch). s.base) c.deref.ensures in
    let births : c.births.result ≡ length (born p.value.entries) = c.births.ensures.value ∙ ap (λ (s : Stretch). length (born s.entries)) c.deref-2.ensures in
    let all : length (born (entries_of (take c.args.keep ps))) ≡ p.value.base + length (born p.value.entries) = ap (λ k. length (born (entries_of (take k ps)))) (sym km) ∙ born_ahead ps m p c.requires.based lt c.index-segments-keep.is in
    omega (arith, all, base, births)
