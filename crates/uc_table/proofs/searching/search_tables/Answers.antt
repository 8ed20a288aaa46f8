use Rattle.std.proofs.Common.{◌≡◌, ◌+◌, ◌≤◌, ◌∙◌, sym, subst, List, ℕ, [], length, rules}
use Rattle.std.specs.Prelude.{slice_get, Some}
use Rattle.uc_table.specs.declared.search_instances.Form.{Form}
use Rattle.uc_table.specs.declared.search_size.State.{State}
use Rattle.uc_table.specs.SearchState.{IsRefutedIn}
use Rattle.uc_table.specs.SearchInstances.{IsRefutedBy, AreSettled, AreOf}
use Rattle.uc_table.proofs.SearchGoing.{ready, ends_refuted, open_start}
use Rattle.uc_table.proofs.searching.search_tables.Goals as goal

pub enroll_all-requires-clause-forms : goal.enroll_all-requires-clause-forms
enroll_all-requires-clause-forms c k f g =
    let n : length c.as_mut_slice-stack.result.now ≡ c.room_of.result = search rules in
    let g2 : slice_get c.args.rules.now.forms.items k ≡ Some f = subst (λ (z : List Form). slice_get z k ≡ Some f) c.deref-2.ensures.value g in
    let g3 : slice_get c.deref.result.now k ≡ Some f = subst (λ (z : List Form). slice_get z k ≡ Some f) (sym c.deref.ensures.value) g2 in
    record { steps = (c.requires.steps k f g2).0; reads = (c.requires.steps k f g2).1; short = subst (λ (z : ℕ). length f.steps.items + 2 ≤ z) (sym n) (c.room_of.ensures k f g3) }

pub returns-then-branch : goal.returns-then-branch
returns-then-branch c =
    let h : IsRefutedIn c.args.rules.now [] = subst (λ (z : List Form). IsRefutedBy c.args.rules.now.size [] z) c.deref-2.ensures.value (c.in_ok-enroll_all.ensures.against c.if-branch.true) in
    ends_refuted c.args.rules.now c.args.budget h

pub go_through-requires-clause-ready : goal.go_through-requires-clause-ready
go_through-requires-clause-ready c =
    let m : length c.as_mut_slice-stack.result.now ≡ c.room_of.result = search rules in
    let n : c.room_of.result ≡ length c.enroll_all.new.stack = sym m ∙ sym c.enroll_all.auto.stack in
    ready c.args.rules.now (length c.enroll_all.new.stack) c.room_of.result c.requires.some c.requires.few c.requires.steps
    (λ k f g. c.room_of.ensures k f (subst (λ (z : List Form). slice_get z k ≡ Some f) (sym c.deref.ensures.value) g)) n

pub go_through-requires-clause-open : goal.go_through-requires-clause-open
go_through-requires-clause-open c =
    let s : State = record { prefix = c.new-2.result; marks = c.new-3.result; waiting = c.enroll_all.new.waiting } in
    let h : AreSettled c.args.rules.now.size [] c.args.rules.now.forms.items c.enroll_all.new.waiting.entries.items = subst (λ (z : List Form). AreSettled c.args.rules.now.size [] z c.enroll_all.new.waiting.entries.items) c.deref-2.ensures.value (c.in_ok-enroll_all.ensures.settled c.if-branch.false) in
    let o : AreOf c.args.rules.now.forms.items c.enroll_all.new.waiting.entries.items = subst (λ (z : List Form). AreOf z c.enroll_all.new.waiting.entries.items) c.deref-2.ensures.value c.in_ok-enroll_all.ensures.of in
    open_start c.args.rules.now s c.new-2.ensures.items c.new-3.ensures.items c.in_ok-enroll_all.ensures.well o h
