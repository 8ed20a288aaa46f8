use Rattle.std.proofs.Common.{◌≡◌, ◌<◌, ◌≤◌, length, [], refl, subst, sym}
use Rattle.uc_table.specs.declared.search_instances.Form.{Form}
use Rattle.std.specs.Prelude.{slice_get, Some}
use Rattle.std.proofs.lemmas.Option.{slice_get_read}
use Rattle.uc_table.proofs.SearchFollowing.{next_enrolled, enrolled, enrolled_against}
use Rattle.uc_table.proofs.search_instances.enroll.Goals as goal

pub returns-then-branch-clause-against : goal.returns-then-branch-clause-against
returns-then-branch-clause-against c _ =
    let f = c.index-forms-number.result in
    let g : slice_get c.args.forms.now c.args.number ≡ Some f = slice_get_read c.args.forms.now (length c.args.forms.now) c.args.number f refl c.requires.number c.index-forms-number.is in
    enrolled_against c.args.size [] c.args.forms.now c.args.number c.loop-assignment.assignment f g (subst (λ (z : Form). c.loop-assignment.assignment < z.assignments) (sym c.index-forms-number.is) c.loop-assignment-test.true) (c.in_ok-settle.ensures.against c.if-branch.true)

pub loop-assignment-preserved : goal.loop-assignment-preserved
loop-assignment-preserved c =
    next_enrolled c.args.size [] c.args.forms.now c.args.number c.args.waiting.now.entries.items c.loop-assignment.waiting c.settle.new.waiting c.loop-assignment.assignment c.loop-assignment.invariant
    c.in_ok-settle.ensures.well c.in_ok-settle.ensures.of c.in_ok-settle.ensures.extends (c.in_ok-settle.ensures.settled c.if-branch.false)

pub returns-clause-settled : goal.returns-clause-settled
returns-clause-settled c _ =
    let f = c.index-forms-number.result in
    let g : slice_get c.args.forms.now c.args.number ≡ Some f = slice_get_read c.args.forms.now (length c.args.forms.now) c.args.number f refl c.requires.number c.index-forms-number.is in
    enrolled c.args.size [] c.args.forms.now c.args.number c.args.waiting.now.entries.items c.loop-assignment.waiting c.loop-assignment.assignment f c.loop-assignment.invariant g (subst (λ (z : Form). z.assignments ≤ c.loop-assignment.assignment) (sym c.index-forms-number.is) c.loop-assignment-test.false)
