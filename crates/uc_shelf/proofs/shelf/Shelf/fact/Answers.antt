use Rattle.std.proofs.Common.{◌≡◌, ◌+◌, ◌-◌, ◌<◌, length, ◌∙◌, arith}
use Rattle.uc_shelf.specs.Entries.{born}
use Rattle.uc_shelf.proofs.Segmented.{born_in_run}
use Rattle.uc_shelf.proofs.shelf.Shelf.fact.Goals as goal

pub returns : goal.returns
returns c =
    let s = c.in-Some.segment.now in
    let m = c.args.number - c.base.result in
    let i = c.in-Some.ensures in
    let at : c.args.number ≡ s.base + m = omega (arith, c.base.ensures.value, i.from_base) in
    let less : m < length (born s.entries) = omega (arith, c.base.ensures.value, i.from_base, i.below) in
    born_in_run c.args.front.now.entries s c.args.number m i.run at less ∙ c.fact_in.ensures
