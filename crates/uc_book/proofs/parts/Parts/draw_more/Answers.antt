use Rattle.std.proofs.Common.{refl}
use Rattle.uc_machine.specs.declared.task.Job.TheVariants.{More}
use Rattle.uc_machine.specs.State.{first_continued}
use Rattle.uc_book.specs.declared.answer.Drawn.TheVariants.{Task as DrawnTask}
use Rattle.uc_book.specs.Openings.{opening_of}
use Rattle.uc_book.specs.Parts.{state_of}
use Rattle.uc_book.specs.Answers.{reply_of}
use Rattle.uc_book.proofs.Rules.{more_drawn}
use Rattle.uc_book.proofs.Giving.{given, more_at_head, same_jobs, dropped_give, budget_after, more_after}
use Rattle.uc_book.proofs.parts.Parts.draw_more.Goals as goal

pub give-requires-clause-can : goal.give-requires-clause-can
give-requires-clause-can c =
    let e = c.drop_orphans.ensures in
    dropped_give c.args.opening.shelf (opening_of c.args.opening) c.args.self.now c.drop_orphans.new.self c.requires.can c.in_ok-drop_orphans.ensures.room e.others e.spare e.ticket

pub give-requires-clause-jobs : goal.give-requires-clause-jobs
give-requires-clause-jobs c = same_jobs More (first_continued (state_of c.args.self.now)) c.args.jobs c.requires.jobs

pub give-requires-clause-head : goal.give-requires-clause-head
give-requires-clause-head c = more_at_head c.drop_orphans.new.self (first_continued (state_of c.args.self.now)) c.args.jobs c.requires.jobs

pub returns-clause-drawn : goal.returns-clause-drawn
returns-clause-drawn c =
    let q = c.drop_orphans.new.self in
    let o = opening_of c.args.opening in
    let can = dropped_give c.args.opening.shelf o c.args.self.now q c.requires.can c.in_ok-drop_orphans.ensures.room c.drop_orphans.ensures.others c.drop_orphans.ensures.spare c.drop_orphans.ensures.ticket in
    c.in_ok-drop_orphans.ensures.leads o (reply_of c.args.worker (DrawnTask c.give.result)) (state_of c.give.new.self)
    (given o c.args.worker (state_of q) (state_of q) c.give.result q.next c.args.jobs.0 q.facts.front c.args.opening (state_of c.give.new.self) c.give.ensures.task refl refl
    (more_drawn o c.args.worker (state_of q) q.next c.args.jobs (state_of c.give.new.self) c.in_ok-drop_orphans.ensures.late (budget_after o c.args.self.now q c.drop_orphans.ensures.others c.requires.budget) (more_after c.args.self.now q c.args.jobs c.drop_orphans.ensures.others c.requires.jobs) can.fit.next c.give.ensures.state))
