use Rattle.std.proofs.Common.{refl, ◌≡◌, List, sym, ◌∙◌, ap, subst}
use Rattle.std.specs.Prelude.{IfOk, OnErr}
use Rattle.uc_shelf.specs.Sights.{Sight}
use Rattle.uc_machine.specs.Draws.{Draws}
use Rattle.uc_machine.specs.declared.task.Job.TheVariants.{Goal}
use Rattle.uc_book.specs.Answers.{reply_of, IfTask}
use Rattle.uc_machine.specs.Lists.{first}
use Rattle.uc_machine.specs.State.{State, Target, is_due}
use Rattle.uc_book.specs.declared.parts.Parts.{Parts}
use Rattle.uc_book.specs.Openings.{opening_of}
use Rattle.uc_book.specs.Parts.{state_of, IsSteady}
use Rattle.uc_rows.specs.Jobs.{AreJobs}
use Rattle.uc_book.proofs.Steady.{on_err, steady_on, steady_fit, steady_room, steady_give, give_on}
use Rattle.uc_book.proofs.Giving.{goal_at_head, same_jobs, due_given}
use Rattle.uc_book.proofs.parts.Parts.draw_open.Goals as goal

pub returns-in_err-make_room-clause-err : goal.returns-in_err-make_room-clause-err
returns-in_err-make_room-clause-err c = on_err c.from_residual.result c.make_room.ensures.steady.state

pub returns-in_err-make_room-clause-front : goal.returns-in_err-make_room-clause-front
returns-in_err-make_room-clause-front c = c.make_room.ensures.steady.front

pub returns-in_err-make_room-clause-fit : goal.returns-in_err-make_room-clause-fit
returns-in_err-make_room-clause-fit c = steady_fit c.args.opening.shelf c.args.self.now c.make_room.new.self c.make_room.ensures.steady c.requires.fit

pub returns-in_err-make_room-clause-room : goal.returns-in_err-make_room-clause-room
returns-in_err-make_room-clause-room c = steady_room c.args.self.now c.make_room.new.self c.make_room.ensures.steady c.requires.room

pub returns-in_err-jobs-clause-err : goal.returns-in_err-jobs-clause-err
returns-in_err-jobs-clause-err c =
    let q : Parts = record c.make_room.new.self { goals = c.due_jobs.new.self } in
    let s : IsSteady c.args.self.now q = steady_on c.args.self.now c.make_room.new.self q c.make_room.ensures.steady refl refl refl c.due_jobs.ensures.same refl refl refl refl refl refl refl in
    on_err c.from_residual-in_err-jobs.result s.state

pub returns-in_err-jobs-clause-front : goal.returns-in_err-jobs-clause-front
returns-in_err-jobs-clause-front c = c.make_room.ensures.steady.front

pub returns-in_err-jobs-clause-fit : goal.returns-in_err-jobs-clause-fit
returns-in_err-jobs-clause-fit c =
    let q : Parts = record c.make_room.new.self { goals = c.due_jobs.new.self } in
    steady_fit c.args.opening.shelf c.args.self.now q (steady_on c.args.self.now c.make_room.new.self q c.make_room.ensures.steady refl refl refl c.due_jobs.ensures.same refl refl refl refl refl refl refl) c.requires.fit

pub returns-in_err-jobs-clause-room : goal.returns-in_err-jobs-clause-room
returns-in_err-jobs-clause-room c =
    let q : Parts = record c.make_room.new.self { goals = c.due_jobs.new.self } in
    steady_room c.args.self.now q (steady_on c.args.self.now c.make_room.new.self q c.make_room.ensures.steady refl refl refl c.due_jobs.ensures.same refl refl refl refl refl refl refl) c.requires.room

pub give-requires-clause-can : goal.give-requires-clause-can
give-requires-clause-can c =
    let q : Parts = record c.make_room.new.self { goals = c.due_jobs.new.self } in
    steady_give c.args.opening.shelf (opening_of c.args.opening) c.args.self.now q (steady_on c.args.self.now c.make_room.new.self q c.make_room.ensures.steady refl refl refl c.due_jobs.ensures.same refl refl refl refl refl refl refl) c.requires.sound c.requires.fit c.requires.room
    (give_on c.make_room.new.self q refl refl c.in_ok-make_room.ensures.room)

pub give-requires-clause-jobs : goal.give-requires-clause-jobs
give-requires-clause-jobs c = (let a = rw c.in-Some.is at c.in_ok-jobs.ensures.jobs in same_jobs Goal (first (λ (g : Target). is_due g.stage) c.make_room.new.self.goals) c.in-Some.jobs a)

pub give-requires-clause-head : goal.give-requires-clause-head
give-requires-clause-head c = (let a = rw c.in-Some.is at c.in_ok-jobs.ensures.jobs in let q : Parts = record c.make_room.new.self { goals = c.due_jobs.new.self } in goal_at_head q (first (λ (g : Target). is_due g.stage) c.make_room.new.self.goals) c.in-Some.jobs a)

pub returns-in_ok-fronts-in-Some-clause-drawn : goal.returns-in_ok-fronts-in-Some-clause-drawn
returns-in_ok-fronts-in-Some-clause-drawn c =
    let q : Parts = record c.make_room.new.self { goals = c.due_jobs.new.self } in
    let a = rw c.in-Some.is at c.in_ok-jobs.ensures.jobs in
    due_given c.args.opening.shelf (opening_of c.args.opening) c.args.worker c.args.self.now q c.give.new.self c.give.result c.args.opening
    (steady_on c.args.self.now c.make_room.new.self q c.make_room.ensures.steady refl refl refl c.due_jobs.ensures.same refl refl refl refl refl refl refl) c.requires.fit c.in-Some.jobs c.requires.open
    (subst (λ (gs : List Target). AreJobs Goal (first (λ (g : Target). is_due g.stage) gs) c.in-Some.jobs) (sym c.due_jobs.ensures.same) a) c.give.ensures.task c.give.ensures.state

pub draw_fact-requires-clause-due : goal.draw_fact-requires-clause-due
draw_fact-requires-clause-due c =
    let none = rw c.in-None.is at c.in_ok-jobs.ensures.jobs in record {
      open_ = ap (λ (s : State). s.verdict) c.make_room.ensures.steady.state ∙ c.requires.open;
      none_due = ap (λ gs. first (λ (g : Target). is_due g.stage) gs) c.due_jobs.ensures.same ∙ none;
    }

pub draw_fact-requires-clause-can : goal.draw_fact-requires-clause-can
draw_fact-requires-clause-can c =
    let q : Parts = record c.make_room.new.self { goals = c.due_jobs.new.self } in
    steady_give c.args.opening.shelf (opening_of c.args.opening) c.args.self.now q (steady_on c.args.self.now c.make_room.new.self q c.make_room.ensures.steady refl refl refl c.due_jobs.ensures.same refl refl refl refl refl refl refl) c.requires.sound c.requires.fit c.requires.room
    (give_on c.make_room.new.self q refl refl c.in_ok-make_room.ensures.room)

pub draw_fact-requires-clause-events : goal.draw_fact-requires-clause-events
draw_fact-requires-clause-events c = give_on c.make_room.new.self (record c.make_room.new.self { goals = c.due_jobs.new.self }) refl refl c.in_ok-make_room.ensures.room

pub returns-in-None-clause-drawn : goal.returns-in-None-clause-drawn
returns-in-None-clause-drawn c =
    let q : Parts = record c.make_room.new.self { goals = c.due_jobs.new.self } in
    let s : IsSteady c.args.self.now q = steady_on c.args.self.now c.make_room.new.self q c.make_room.ensures.steady refl refl refl c.due_jobs.ensures.same refl refl refl refl refl refl refl in
    subst (λ (x : State). IfOk c.draw_fact.result (λ d. Draws (opening_of c.args.opening) c.args.worker x (reply_of c.args.worker d) (state_of c.draw_fact.new.self))) s.state c.draw_fact.ensures.drawn

pub returns-in-None-clause-task : goal.returns-in-None-clause-task
returns-in-None-clause-task c = subst (λ (x : Sight). IfOk c.draw_fact.result (λ d. IfTask d (λ t. (t.opening ≡ c.args.opening) × (t.front ≡ x)))) c.make_room.ensures.steady.front c.draw_fact.ensures.task

pub returns-in-None-clause-err : goal.returns-in-None-clause-err
returns-in-None-clause-err c =
    let q : Parts = record c.make_room.new.self { goals = c.due_jobs.new.self } in
    let s : IsSteady c.args.self.now q = steady_on c.args.self.now c.make_room.new.self q c.make_room.ensures.steady refl refl refl c.due_jobs.ensures.same refl refl refl refl refl refl refl in
    subst (λ (x : State). OnErr c.draw_fact.result (state_of c.draw_fact.new.self ≡ x)) s.state c.draw_fact.ensures.err

pub returns-in-None-clause-front : goal.returns-in-None-clause-front
returns-in-None-clause-front c = c.draw_fact.ensures.front ∙ c.make_room.ensures.steady.front
