use Rattle.std.proofs.Common.{rules, refl, ◌≡◌, ◌≤◌, ◌++◌, ◌∷◌, [], length, sym, ◌∙◌, ap, subst}
use Rattle.std.specs.Prelude.{Vec}
use Rattle.std.specs.declared.alloc.Global.{Global}
use Rattle.uc_fact.specs.declared.fact.Fact.{Fact}
use Rattle.uc_shelf.specs.Sights.{Sight}
use Rattle.uc_shelf.specs.Fronts.{IsOf}
use Rattle.uc_shelf.specs.declared.entry.Entry.TheVariants.{Born}
use Rattle.uc_shelf.specs.Entries.{born}
use Rattle.uc_ledger.specs.declared.ledger.State.TheVariants.{Done}
use Rattle.uc_machine.specs.declared.event.Happening.TheVariants.{CommitKept}
use Rattle.uc_machine.specs.State.{State}
use Rattle.uc_machine.specs.Effects.{publishes, turns, accepts}
use Rattle.uc_rows.specs.declared.tasks.TaskRow.{TaskRow}
use Rattle.uc_rows.specs.RowViews.{FactsView}
use Rattle.uc_rows.specs.TaskRows.{StandsAt}
use Rattle.uc_book.specs.Parts.{state_of}
use Rattle.uc_book.proofs.Steady.{on_err, steady_fit, steady_room}
use Rattle.uc_book.proofs.Standing.{can_accept, kept_fit, room_kept, steady_end, steady_stands, stands_before}
use Rattle.uc_book.proofs.Finishing.{pair_kept}
use Rattle.uc_book.proofs.parts.Parts.keep.Goals as goal

pub returns-in_err-front-clause-err : goal.returns-in_err-front-clause-err
returns-in_err-front-clause-err g c = on_err c.from_residual-in_err-front.result (c.with_birth.ensures.steady.state, c.with_birth.ensures.steady.front)

pub returns-in_err-front-clause-fit : goal.returns-in_err-front-clause-fit
returns-in_err-front-clause-fit g c = steady_fit c.args.shelf.now c.args.self.now c.with_birth.new.self c.with_birth.ensures.steady c.requires.can.1.fit

pub returns-in_err-front-clause-room : goal.returns-in_err-front-clause-room
returns-in_err-front-clause-room g c = steady_room c.args.self.now c.with_birth.new.self c.with_birth.ensures.steady c.requires.can.1.room

pub end_pair-requires-clause-at : goal.end_pair-requires-clause-at
end_pair-requires-clause-at g c = (c.requires.at.0, steady_stands c.args.self.now c.with_birth.new.self c.args.at c.requires.at.0 c.with_birth.ensures.steady c.requires.at.1)

pub end_pair-requires-clause-job : goal.end_pair-requires-clause-job
end_pair-requires-clause-job g c = λ t h. c.requires.job t (stands_before c.args.self.now c.with_birth.new.self c.args.at t c.with_birth.ensures.steady h)

pub end_pair-requires-clause-out : goal.end_pair-requires-clause-out
end_pair-requires-clause-out g c = λ t h. (steady_end c.args.shelf.now c.requires.can.0 c.args.self.now c.with_birth.new.self c.with_birth.ensures.steady c.requires.can.1).subjects t h.found

pub end_pair-requires-clause-can : goal.end_pair-requires-clause-can
end_pair-requires-clause-can g c = λ t h. can_accept c.args.shelf.now c.requires.can.0 c.with_birth.new.self c.args.at t (steady_end c.args.shelf.now c.requires.can.0 c.args.self.now c.with_birth.new.self c.with_birth.ensures.steady c.requires.can.1) h

pub publish-requires-clause-grew : goal.publish-requires-clause-grew
publish-requires-clause-grew g c = record {
  fact = c.args.fact.now;
  is = c.in_ok-front.ensures.entries ∙ ap (λ (a : Fact). c.args.self.now.facts.front.entries ++ Born a ∷ []) c.in_ok-copy.ensures
      ∙ ap (λ (x : Sight). x.entries ++ Born c.args.fact.now ∷ []) (sym (ap (λ (f : FactsView). f.front) c.end_pair.ensures.front ∙ c.with_birth.ensures.steady.front));
  weight_is = search (rules, c.nodes.ensures, c.nodes-2.ensures);
}

pub publish-requires-clause-room : goal.publish-requires-clause-room
publish-requires-clause-room g c = subst (λ (f : FactsView). 1 ≤ f.room) (sym c.end_pair.ensures.front) c.in_ok-front.ensures.room

pub returns-clause-ok : goal.returns-clause-ok
returns-clause-ok g c = λ o t stands.
    (let p = c.args.self.now in
    let q = c.with_birth.new.self in
    let s = c.with_birth.ensures.steady in
    let h : StandsAt q.tasks.items c.args.at t = steady_stands p q c.args.at t s stands in
    let entries = c.in_ok-front.ensures.entries ∙ ap (λ (a : Fact). p.facts.front.entries ++ Born a ∷ []) c.in_ok-copy.ensures
    ∙ ap (λ (x : Sight). x.entries ++ Born c.args.fact.now ∷ []) (sym (ap (λ (f : FactsView). f.front) c.end_pair.ensures.front ∙ s.front)) in
    let number : c.count-number.result ≡ length (born p.facts.front.entries) = c.count-number.ensures.value ∙ ap (λ (x : Sight). length (born x.entries)) s.front in
    pair_kept o t t.job c.args.pair c.count-number.result c.args.fact.now (state_of p) (state_of c.publish.new.self) c.requires.open refl (c.requires.job t stands) number
    (c.publish.ensures.state c.args.fact.now entries ∙ ap (publishes c.args.fact.now) (c.end_pair.ensures.state t h ∙ ap (λ (x : State). turns Done c.args.pair (accepts t (CommitKept c.args.pair c.count-number.result) x)) s.state)))

pub returns-clause-fit : goal.returns-clause-fit
returns-clause-fit g c =
    let p = c.args.self.now in
    let q = c.with_birth.new.self in
    let s = c.with_birth.ensures.steady in
    let t = c.requires.at.0 in
    let h : StandsAt q.tasks.items c.args.at t = steady_stands p q c.args.at t s c.requires.at.1 in
    let entries = c.in_ok-front.ensures.entries ∙ ap (λ (a : Fact). p.facts.front.entries ++ Born a ∷ []) c.in_ok-copy.ensures
    ∙ ap (λ (x : Sight). x.entries ++ Born c.args.fact.now ∷ []) (sym (ap (λ (f : FactsView). f.front) c.end_pair.ensures.front ∙ s.front)) in
    kept_fit c.args.shelf.now q c.publish.new.self c.args.at t (CommitKept c.args.pair c.count-number.result) c.args.pair c.args.fact.now (steady_fit c.args.shelf.now p q s c.requires.can.1.fit) h
    (c.publish.ensures.state c.args.fact.now entries ∙ ap (publishes c.args.fact.now) (c.end_pair.ensures.state t h)) refl (c.publish.ensures.rest.next ∙ c.end_pair.ensures.rest.next)
    (ap (λ (ts : Vec TaskRow Global). ts.items) c.publish.ensures.rest.tasks ∙ c.end_pair.ensures.rest.tasks) (subst (IsOf c.args.shelf.now) (sym c.publish.ensures.front) c.in_ok-front.ensures.of)

pub returns-clause-room : goal.returns-clause-room
returns-clause-room g c =
    let p = c.args.self.now in
    let q = c.with_birth.new.self in
    let r = c.publish.new.self in
    let s = c.with_birth.ensures.steady in
    let t = c.requires.at.0 in
    let h : StandsAt q.tasks.items c.args.at t = steady_stands p q c.args.at t s c.requires.at.1 in
    room_kept q c.end_pair.new.self r c.args.at t (steady_room p q s c.requires.can.1.room) h c.end_pair.ensures.rest c.end_pair.ensures.spare c.publish.ensures.rest
