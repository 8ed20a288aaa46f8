use Rattle.std.proofs.Common.{refl, ◌≡◌, Some, sym, ◌∙◌, ap, subst}
use Rattle.std.specs.Prelude.{IfOk, OnErr}
use Rattle.uc_shelf.specs.Sights.{Sight}
use Rattle.uc_machine.specs.Draws.{Draws, NoneDue}
use Rattle.uc_machine.specs.declared.state.Meeting.{Meeting}
use Rattle.uc_machine.specs.Lists.{At, map_option}
use Rattle.uc_machine.specs.State.{State, first_unmet}
use Rattle.uc_book.specs.declared.parts.Parts.{Parts}
use Rattle.uc_book.specs.Openings.{opening_of}
use Rattle.uc_rows.specs.RowViews.{FactsView}
use Rattle.uc_book.specs.Parts.{state_of, IsSteady}
use Rattle.uc_book.specs.Answers.{reply_of, IfTask}
use Rattle.uc_book.proofs.Steady.{steady_give, give_on, steady_self}
use Rattle.uc_book.proofs.Giving.{unmet_given, found_none}
use Rattle.uc_book.proofs.parts.Parts.draw_fact.Goals as goal

pub give-requires-clause-can : goal.give-requires-clause-can
give-requires-clause-can c =
    let q : Parts = record c.args.self.now { facts = c.first_unmet.new.self } in
    steady_give c.args.opening.shelf (opening_of c.args.opening) c.args.self.now q (steady_self c.args.self.now c.first_unmet.new.self c.first_unmet.ensures.same) c.requires.can.sound c.requires.can.fit c.requires.can.room (give_on c.args.self.now q refl refl c.requires.events)

pub returns-in_ok-fronts-in-Some-clause-drawn : goal.returns-in_ok-fronts-in-Some-clause-drawn
returns-in_ok-fronts-in-Some-clause-drawn c =
    let p = c.args.self.now in
    let q : Parts = record p { facts = c.first_unmet.new.self } in
    let s : IsSteady p q = steady_self p c.first_unmet.new.self c.first_unmet.ensures.same in
    let found : Some c.in-Some.fact ≡ map_option (λ (f : At Meeting). f.number) (first_unmet (state_of q)) = sym c.in-Some.is ∙ c.first_unmet.ensures.found ∙ ap (λ (x : State). map_option (λ (f : At Meeting). f.number) (first_unmet x)) (sym s.state) in
    unmet_given c.args.opening.shelf (opening_of c.args.opening) c.args.worker p q c.give.new.self c.give.result c.args.opening s c.requires.can.fit c.in-Some.fact (subst NoneDue (sym s.state) c.requires.due) found c.give.ensures.task c.give.ensures.state

pub draw_behind-requires-clause-met : goal.draw_behind-requires-clause-met
draw_behind-requires-clause-met c =
    let p = c.args.self.now in
    let q : Parts = record p { facts = c.first_unmet.new.self } in
    let s : IsSteady p q = steady_self p c.first_unmet.new.self c.first_unmet.ensures.same in
    found_none (state_of q) c.requires.due.open_ c.requires.due.none_due (sym c.in-None.is ∙ c.first_unmet.ensures.found ∙ ap (λ (x : State). map_option (λ (f : At Meeting). f.number) (first_unmet x)) (sym s.state))

pub draw_behind-requires-clause-can : goal.draw_behind-requires-clause-can
draw_behind-requires-clause-can c =
    let q : Parts = record c.args.self.now { facts = c.first_unmet.new.self } in
    steady_give c.args.opening.shelf (opening_of c.args.opening) c.args.self.now q (steady_self c.args.self.now c.first_unmet.new.self c.first_unmet.ensures.same) c.requires.can.sound c.requires.can.fit c.requires.can.room (give_on c.args.self.now q refl refl c.requires.events)

pub draw_behind-requires-clause-events : goal.draw_behind-requires-clause-events
draw_behind-requires-clause-events c = give_on c.args.self.now (record c.args.self.now { facts = c.first_unmet.new.self }) refl refl c.requires.events

pub returns-in-None-clause-drawn : goal.returns-in-None-clause-drawn
returns-in-None-clause-drawn c =
    let s = steady_self c.args.self.now c.first_unmet.new.self c.first_unmet.ensures.same in
    subst (λ (x : State). IfOk c.draw_behind.result (λ d. Draws (opening_of c.args.opening) c.args.worker x (reply_of c.args.worker d) (state_of c.draw_behind.new.self))) s.state c.draw_behind.ensures.drawn

pub returns-in-None-clause-task : goal.returns-in-None-clause-task
returns-in-None-clause-task c = subst (λ (x : Sight). IfOk c.draw_behind.result (λ d. IfTask d (λ t. (t.opening ≡ c.args.opening) × (t.front ≡ x)))) (ap (λ (f : FactsView). f.front) c.first_unmet.ensures.same) c.draw_behind.ensures.task

pub returns-in-None-clause-err : goal.returns-in-None-clause-err
returns-in-None-clause-err c =
    let s = steady_self c.args.self.now c.first_unmet.new.self c.first_unmet.ensures.same in
    subst (λ (x : State). OnErr c.draw_behind.result (state_of c.draw_behind.new.self ≡ x)) s.state c.draw_behind.ensures.err

pub returns-in-None-clause-front : goal.returns-in-None-clause-front
returns-in-None-clause-front c = c.draw_behind.ensures.front ∙ ap (λ (f : FactsView). f.front) c.first_unmet.ensures.same
