use Rattle.std.proofs.Common.{refl, ap}
use Rattle.uc_machine.specs.State.{State}
use Rattle.uc_machine.specs.Events.{commits_by}
use Rattle.uc_book.specs.Openings.{PassView, opening_of}
use Rattle.uc_book.specs.Answers.{reply_of}
use Rattle.uc_search.proofs.Moved.{book_state}
use Rattle.uc_search.proofs.Counting.{draw_commits}
use Rattle.uc_search.proofs.Passes.{counts_nothing, counts_as, counts_drawn}
use Rattle.uc_search.proofs.Turning.{drawn_out, never_idle, drained_out, closed_out, turns_drained, turns_closed, turns_nowhere, turns_by_task}
use Rattle.uc_search.proofs.working.take_turn.Goals as goal

pub end_task-requires-clause-out : goal.end_task-requires-clause-out
end_task-requires-clause-out g c = drawn_out (opening_of c.args.book.now.opening) c.args.pass.now.worker c.args.book.now.state c.draw.new.self.state c.in-Ok-Task.field-0 c.requires.none_out c.in-Ok-Task.ensures.drawn c.in-Ok-Task.task c.draw.new.pass c.in-Ok-Task.field-0-is (ap (λ (p : PassView). p.worker) c.in-Ok-Task.ensures.pass)

pub unreachable-requires : goal.unreachable-requires
unreachable-requires g c = never_idle (opening_of c.args.book.now.opening) c.args.pass.now.worker c.args.book.now.state c.draw.new.self.state c.in-Ok-Idle.field-0 c.requires.none_out c.in-Ok-Idle.ensures.drawn c.in-Ok-Idle.field-0-0 c.in-Ok-Idle.field-0-is

pub returns-in-Ok-Task-clause-turned : goal.returns-in-Ok-Task-clause-turned
returns-in-Ok-Task-clause-turned g c =
    turns_by_task g.O.Order.meaning c.args.book.now c.draw.new.self c.in-Ok-Task.ensures.book c.args.pass.now.worker c.in-Ok-Task.field-0 c.in-Ok-Task.task c.draw.new.pass c.in-Ok-Task.field-0-is (ap (λ (p : PassView). p.worker) c.in-Ok-Task.ensures.pass) c.in-Ok-Task.ensures.drawn c.end_task.result c.end_task.new.book.state c.end_task.ensures.turned

pub returns-in-Ok-Task-clause-count : goal.returns-in-Ok-Task-clause-count
returns-in-Ok-Task-clause-count g c =
    let s = c.args.book.now.state in
    let u = c.draw.new.self.state in
    let before = draw_commits (opening_of c.args.book.now.opening) c.args.pass.now.worker s (reply_of c.args.pass.now.worker c.in-Ok-Task.field-0) u c.in-Ok-Task.ensures.drawn in
    counts_as c.args.pass.now c.end_task.new.pass c.draw.new.pass c.end_task.new.pass s c.end_task.new.book.state u c.end_task.new.book.state c.in-Ok-Task.ensures.pass refl before (λ v. refl) c.end_task.ensures.count

pub returns-in-Ok-Drained-clause-turned : goal.returns-in-Ok-Drained-clause-turned
returns-in-Ok-Drained-clause-turned g c = turns_drained (opening_of c.args.book.now.opening) c.args.pass.now.worker c.args.book.now.state c.draw.new.self.state c.in-Ok-Drained.field-0 c.requires.none_out c.in-Ok-Drained.ensures.drawn (g.O.Order.meaning c.args.book.now.order) c.in-Ok-Drained.field-0-is

pub returns-in-Ok-Drained-clause-none_out : goal.returns-in-Ok-Drained-clause-none_out
returns-in-Ok-Drained-clause-none_out g c = drained_out (opening_of c.args.book.now.opening) c.args.pass.now.worker c.args.book.now.state c.draw.new.self.state c.in-Ok-Drained.field-0 c.requires.none_out c.in-Ok-Drained.ensures.drawn c.in-Ok-Drained.field-0-is

pub returns-in-Ok-Drained-clause-count : goal.returns-in-Ok-Drained-clause-count
returns-in-Ok-Drained-clause-count g c = counts_drawn (opening_of c.args.book.now.opening) c.args.pass.now.worker c.args.book.now.state (reply_of c.args.pass.now.worker c.in-Ok-Drained.field-0) c.draw.new.self.state c.args.pass.now c.draw.new.pass c.in-Ok-Drained.ensures.pass c.has_few_commits.ensures.pass c.has_few_commits.ensures.history c.in-Ok-Drained.ensures.drawn

pub returns-in-Ok-Closed-clause-turned : goal.returns-in-Ok-Closed-clause-turned
returns-in-Ok-Closed-clause-turned g c = turns_closed (opening_of c.args.book.now.opening) c.args.pass.now.worker c.args.book.now.state c.draw.new.self.state c.in-Ok-Closed.field-0 c.requires.none_out c.in-Ok-Closed.ensures.drawn (g.O.Order.meaning c.args.book.now.order) c.in-Ok-Closed.field-0-0 c.in-Ok-Closed.field-0-is

pub returns-in-Ok-Closed-clause-none_out : goal.returns-in-Ok-Closed-clause-none_out
returns-in-Ok-Closed-clause-none_out g c = closed_out (opening_of c.args.book.now.opening) c.args.pass.now.worker c.args.book.now.state c.draw.new.self.state c.in-Ok-Closed.field-0 c.requires.none_out c.in-Ok-Closed.ensures.drawn c.in-Ok-Closed.field-0-0 c.in-Ok-Closed.field-0-is

pub returns-in-Ok-Closed-clause-count : goal.returns-in-Ok-Closed-clause-count
returns-in-Ok-Closed-clause-count g c = counts_drawn (opening_of c.args.book.now.opening) c.args.pass.now.worker c.args.book.now.state (reply_of c.args.pass.now.worker c.in-Ok-Closed.field-0) c.draw.new.self.state c.args.pass.now c.draw.new.pass c.in-Ok-Closed.ensures.pass c.has_few_commits.ensures.pass c.has_few_commits.ensures.history c.in-Ok-Closed.ensures.drawn

pub returns-in-Err-clause-turned : goal.returns-in-Err-clause-turned
returns-in-Err-clause-turned g c = turns_nowhere (g.O.Order.meaning c.args.book.now.order) (opening_of c.args.book.now.opening) c.args.pass.now.worker c.args.book.now.state c.draw.new.self.state (book_state c.args.book.now c.draw.new.self c.in-Err.ensures.err)

pub returns-in-Err-clause-count : goal.returns-in-Err-clause-count
returns-in-Err-clause-count g c =
    let s = c.args.book.now.state in
    let same = book_state c.args.book.now c.draw.new.self c.in-Err.ensures.err in
    counts_as c.args.pass.now c.args.pass.now c.args.pass.now c.draw.new.pass s s s c.draw.new.self.state refl c.in-Err.ensures.pass (λ v. refl) (λ v. ap (λ (x : State). commits_by v x.history) same)
    (counts_nothing c.args.pass.now s c.has_few_commits.ensures.pass c.has_few_commits.ensures.history)
