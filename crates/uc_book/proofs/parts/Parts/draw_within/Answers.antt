use Rattle.std.proofs.Common.{◌≡◌, List, refl, sym, subst}
use Rattle.std.specs.Prelude.{IfOk, OnErr, None}
use Rattle.uc_machine.specs.declared.task.Job.TheVariants.{More}
use Rattle.uc_machine.specs.Draws.{Draws, NoneUnmet}
use Rattle.uc_machine.specs.Lists.{first}
use Rattle.uc_machine.specs.State.{State, Target, is_continued}
use Rattle.uc_book.specs.declared.parts.Parts.{Parts}
use Rattle.uc_book.specs.Openings.{opening_of}
use Rattle.uc_book.specs.Parts.{state_of}
use Rattle.uc_book.specs.Answers.{reply_of}
use Rattle.uc_rows.specs.Jobs.{AreJobs}
use Rattle.uc_book.proofs.Steady.{steady_give, give_on, with_goals}
use Rattle.uc_book.proofs.parts.Parts.draw_within.Goals as goal

pub draw_more-requires-clause-met : goal.draw_more-requires-clause-met
draw_more-requires-clause-met c = subst NoneUnmet (sym (with_goals c.args.self.now c.continued_jobs.new.self c.continued_jobs.ensures.same).state) c.requires.met

pub draw_more-requires-clause-can : goal.draw_more-requires-clause-can
draw_more-requires-clause-can c =
    let p = c.args.self.now in
    let q : Parts = record p { goals = c.continued_jobs.new.self } in
    steady_give c.args.opening.shelf (opening_of c.args.opening) p q (with_goals p c.continued_jobs.new.self c.continued_jobs.ensures.same) c.requires.can.sound c.requires.can.fit c.requires.can.room (give_on p q refl refl c.requires.events)

pub draw_more-requires-clause-events : goal.draw_more-requires-clause-events
draw_more-requires-clause-events c = give_on c.args.self.now (record c.args.self.now { goals = c.continued_jobs.new.self }) refl refl c.requires.events

pub draw_more-requires-clause-jobs : goal.draw_more-requires-clause-jobs
draw_more-requires-clause-jobs c =
    let a = rw c.in-Some.is at c.in_ok-jobs.ensures.jobs in
    subst (λ (gs : List Target). AreJobs More (first (λ (g : Target). is_continued g.stage) gs) c.in-Some.jobs) (sym c.continued_jobs.ensures.same) a

pub returns-in-Some-clause-drawn : goal.returns-in-Some-clause-drawn
returns-in-Some-clause-drawn c =
    subst (λ (x : State). IfOk c.draw_more.result (λ d. Draws (opening_of c.args.opening) c.args.worker x (reply_of c.args.worker d) (state_of c.draw_more.new.self))) (with_goals c.args.self.now c.continued_jobs.new.self c.continued_jobs.ensures.same).state c.draw_more.ensures.drawn

pub returns-in-Some-clause-err : goal.returns-in-Some-clause-err
returns-in-Some-clause-err c =
    subst (λ (x : State). OnErr c.draw_more.result (state_of c.draw_more.new.self ≡ x)) (with_goals c.args.self.now c.continued_jobs.new.self c.continued_jobs.ensures.same).state c.draw_more.ensures.err

pub draw_queue-requires-clause-met : goal.draw_queue-requires-clause-met
draw_queue-requires-clause-met c = subst NoneUnmet (sym (with_goals c.args.self.now c.continued_jobs.new.self c.continued_jobs.ensures.same).state) c.requires.met

pub draw_queue-requires-clause-can : goal.draw_queue-requires-clause-can
draw_queue-requires-clause-can c =
    let p = c.args.self.now in
    let q : Parts = record p { goals = c.continued_jobs.new.self } in
    steady_give c.args.opening.shelf (opening_of c.args.opening) p q (with_goals p c.continued_jobs.new.self c.continued_jobs.ensures.same) c.requires.can.sound c.requires.can.fit c.requires.can.room (give_on p q refl refl c.requires.events)

pub draw_queue-requires-clause-events : goal.draw_queue-requires-clause-events
draw_queue-requires-clause-events c = give_on c.args.self.now (record c.args.self.now { goals = c.continued_jobs.new.self }) refl refl c.requires.events

pub draw_queue-requires-clause-goal : goal.draw_queue-requires-clause-goal
draw_queue-requires-clause-goal c =
    let none = rw c.in-None.is at c.in_ok-jobs.ensures.jobs in
    subst (λ (gs : List Target). first (λ (g : Target). is_continued g.stage) gs ≡ None) (sym c.continued_jobs.ensures.same) none

pub returns-in-None-clause-drawn : goal.returns-in-None-clause-drawn
returns-in-None-clause-drawn c =
    subst (λ (x : State). IfOk c.draw_queue.result (λ d. Draws (opening_of c.args.opening) c.args.worker x (reply_of c.args.worker d) (state_of c.draw_queue.new.self))) (with_goals c.args.self.now c.continued_jobs.new.self c.continued_jobs.ensures.same).state c.draw_queue.ensures.drawn

pub returns-in-None-clause-err : goal.returns-in-None-clause-err
returns-in-None-clause-err c =
    subst (λ (x : State). OnErr c.draw_queue.result (state_of c.draw_queue.new.self ≡ x)) (with_goals c.args.self.now c.continued_jobs.new.self c.continued_jobs.ensures.same).state c.draw_queue.ensures.err
