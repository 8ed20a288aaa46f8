use Rattle.std.proofs.Common.{◌≡◌, Some, sym, ap, ◌∙◌, slice_get}
use Rattle.uc_shelf.proofs.Numbered.{birth_of, birth_inside, fact_at_birth, no_death_at_birth}
use Rattle.uc_shelf.proofs.Places.{home_here, within_some}
use Rattle.uc_shelf.proofs.shelf.Shelf.fact_in.Goals as goal

pub unwrap-k-requires : goal.unwrap-k-requires
unwrap-k-requires c = birth_of c.args.segment.now.entries c.args.number c.birth.result c.birth.ensures c.requires.born

pub place-requires : goal.place-requires
place-requires c = birth_inside c.args.segment.now.entries c.args.number c.unwrap-k.result (rw c.unwrap-k.ensures at c.birth.ensures)

pub entry_at-requires : goal.entry_at-requires
entry_at-requires c = home_here c.args.self.now c.args.segment.now.homes c.unwrap-k.result c.place.result.now.bucket c.place.result.now.row c.requires.of (within_some c.args.segment.now.homes c.unwrap-k.result (c.place.result.now.bucket, c.place.result.now.row) c.place.ensures.home) c.place.ensures.home

pub unreachable-requires : goal.unreachable-requires
unreachable-requires c =
    let at : Some c.entry_at.result.now ≡ slice_get c.args.segment.now.entries c.unwrap-k.result = ap Some c.entry_at.ensures ∙ sym c.place.ensures.value in
    no_death_at_birth c.args.segment.now.entries c.args.number c.unwrap-k.result c.entry_at.result.now c.in-Dies.fact c.in-Dies.killer (rw c.unwrap-k.ensures at c.birth.ensures) at c.in-Dies.is

pub returns : goal.returns
returns c =
    let at : Some c.entry_at.result.now ≡ slice_get c.args.segment.now.entries c.unwrap-k.result = ap Some c.entry_at.ensures ∙ sym c.place.ensures.value in
    fact_at_birth c.args.segment.now.entries c.args.number c.unwrap-k.result c.entry_at.result.now c.in-Born.fact (rw c.unwrap-k.ensures at c.birth.ensures) at c.in-Born.is
