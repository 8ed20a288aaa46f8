use Rattle.std.proofs.Common.{◌≡◌, Some, None, length, slice_get, refl}
use Rattle.std.proofs.lemmas.Option.{slice_get_read, slice_get_past}
use Rattle.uc_certify.proofs.EndsTested.{no_instance, left_instance, right_instance, by_right}
use Rattle.uc_certify.proofs.Lists.{of, not_of, never, always, same_test}
use Rattle.uc_certify.proofs.ends.is_instance.Goals as goal

pub returns-in_default : goal.returns-in_default
returns-in_default c =
    let none : slice_get c.args.facts.now c.args.number ≡ None = (slice_get_past c.args.facts.now c.args.number c.in_default.ensures.lookup.3) in
    never (no_instance c.args.facts.now c.args.s.now c.args.t.now c.args.number none)

pub returns-then-branch : goal.returns-then-branch
returns-then-branch c =
    let at : slice_get c.args.facts.now c.args.number ≡ Some c.in-Some.fact.now = (slice_get_read c.args.facts.now (length c.args.facts.now) c.args.number c.in-Some.fact.now refl c.in-Some.ensures.lookup.3.0 c.in-Some.ensures.lookup.1) in
    always (left_instance c.args.facts.now c.args.s.now c.args.t.now c.args.number c.in-Some.fact.now at (of c.in_ok-are_sides.field-0 c.if-branch.true c.in_ok-are_sides.ensures))

pub returns : goal.returns
returns c =
    let at : slice_get c.args.facts.now c.args.number ≡ Some c.in-Some.fact.now = (slice_get_read c.args.facts.now (length c.args.facts.now) c.args.number c.in-Some.fact.now refl c.in-Some.ensures.lookup.3.0 c.in-Some.ensures.lookup.1) in
    same_test c.are_sides-2.result (right_instance c.args.facts.now c.args.s.now c.args.t.now c.args.number c.in-Some.fact.now at) (by_right c.args.facts.now c.args.s.now c.args.t.now c.args.number c.in-Some.fact.now at (not_of c.in_ok-are_sides.field-0 c.if-branch.false c.in_ok-are_sides.ensures)) c.are_sides-2.ensures
