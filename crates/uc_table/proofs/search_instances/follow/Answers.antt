use Rattle.std.proofs.Common.{◌≡◌, ◌-◌, length, refl}
use Rattle.std.specs.Prelude.{slice_get, Some}
use Rattle.std.proofs.lemmas.Option.{slice_get_read, slice_get_within}
use Rattle.uc_table.proofs.SearchFollowing.{place_within, next_within, next_followed, followed_at_start, small_of, refuted_of, done_followed}
use Rattle.uc_table.proofs.search_instances.follow.Goals as goal

pub loop-at-init : goal.loop-at-init
loop-at-init c = followed_at_start c.args.size c.args.prefix.now c.args.forms.now c.args.cell c.args.waiting.now c.index-at.result.now c.requires.well c.requires.of c.requires.cell c.index-at.ensures

pub settle-requires-clause-number : goal.settle-requires-clause-number
settle-requires-clause-number c =
    let w = c.loop-at.waiting in
    let e = c.index-entry.result.now in
    let h = place_within c.args.size c.args.prefix.now c.args.forms.now c.args.cell c.args.waiting.now.entries.items w c.loop-at.at c.loop-at.invariant c.loop-at-test.true in
    let g : slice_get w.entries.items (c.loop-at.at - 1) ≡ Some e = slice_get_read w.entries.items (length w.entries.items) (c.loop-at.at - 1) e refl h c.index-entry.ensures in
    let o = c.loop-at.invariant.of (c.loop-at.at - 1) e g in
    slice_get_within c.args.forms.now e.form o.form o.form_is

pub settle-requires-clause-small : goal.settle-requires-clause-small
settle-requires-clause-small c f k =
    let w = c.loop-at.waiting in
    let e = c.index-entry.result.now in
    let h = place_within c.args.size c.args.prefix.now c.args.forms.now c.args.cell c.args.waiting.now.entries.items w c.loop-at.at c.loop-at.invariant c.loop-at-test.true in
    let g : slice_get w.entries.items (c.loop-at.at - 1) ≡ Some e = slice_get_read w.entries.items (length w.entries.items) (c.loop-at.at - 1) e refl h c.index-entry.ensures in
    small_of c.args.forms.now e f (c.loop-at.invariant.of (c.loop-at.at - 1) e g) k

pub returns-then-branch-clause-against : goal.returns-then-branch-clause-against
returns-then-branch-clause-against c _ =
    let w = c.loop-at.waiting in
    let e = c.index-entry.result.now in
    let h = place_within c.args.size c.args.prefix.now c.args.forms.now c.args.cell c.args.waiting.now.entries.items w c.loop-at.at c.loop-at.invariant c.loop-at-test.true in
    let g : slice_get w.entries.items (c.loop-at.at - 1) ≡ Some e = slice_get_read w.entries.items (length w.entries.items) (c.loop-at.at - 1) e refl h c.index-entry.ensures in
    refuted_of c.args.size c.args.prefix.now c.args.forms.now e (c.loop-at.invariant.of (c.loop-at.at - 1) e g) (c.in_ok-settle.ensures.against c.if-branch.true)

pub loop-at-smaller : goal.loop-at-smaller
loop-at-smaller c =
    let w = c.loop-at.waiting in
    let e = c.index-entry.result.now in
    let h = place_within c.args.size c.args.prefix.now c.args.forms.now c.args.cell c.args.waiting.now.entries.items w c.loop-at.at c.loop-at.invariant c.loop-at-test.true in
    let g : slice_get w.entries.items (c.loop-at.at - 1) ≡ Some e = slice_get_read w.entries.items (length w.entries.items) (c.loop-at.at - 1) e refl h c.index-entry.ensures in
    next_within c.args.size c.args.prefix.now c.args.forms.now c.args.cell c.args.waiting.now.entries.items w c.loop-at.at e c.loop-at.invariant c.loop-at-test.true g

pub loop-at-preserved : goal.loop-at-preserved
loop-at-preserved c =
    let w = c.loop-at.waiting in
    let e = c.index-entry.result.now in
    let h = place_within c.args.size c.args.prefix.now c.args.forms.now c.args.cell c.args.waiting.now.entries.items w c.loop-at.at c.loop-at.invariant c.loop-at-test.true in
    let g : slice_get w.entries.items (c.loop-at.at - 1) ≡ Some e = slice_get_read w.entries.items (length w.entries.items) (c.loop-at.at - 1) e refl h c.index-entry.ensures in
    next_followed c.args.size c.args.prefix.now c.args.forms.now c.args.cell c.args.waiting.now.entries.items w c.settle.new.waiting c.loop-at.at e c.loop-at.invariant c.loop-at-test.true g
    c.in_ok-settle.ensures.well c.in_ok-settle.ensures.of c.in_ok-settle.ensures.extends (c.in_ok-settle.ensures.settled c.if-branch.false)

pub returns-clause-settled : goal.returns-clause-settled
returns-clause-settled c _ = done_followed c.args.size c.args.prefix.now c.args.forms.now c.args.cell c.args.waiting.now.entries.items c.loop-at.waiting c.loop-at.at c.loop-at.invariant c.loop-at-test.false
