use Rattle.std.proofs.Common.{◌∙◌, ap}
use Rattle.uc_machine.specs.Lists.{first}
use Rattle.uc_machine.specs.State.{Target, is_continued}
use Rattle.uc_book.specs.Openings.{opening_of}
use Rattle.uc_book.specs.Parts.{state_of}
use Rattle.uc_book.specs.Answers.{reply_of}
use Rattle.uc_book.proofs.Waiting.{no_head, late_by}
use Rattle.uc_book.proofs.Giving.{dropped_give, budget_after}
use Rattle.uc_book.proofs.parts.Parts.draw_queue.Goals as goal

pub draw_nothing-requires-clause-late : goal.draw_nothing-requires-clause-late
draw_nothing-requires-clause-late c = late_by (state_of c.args.self.now) c.requires.met (no_head c.args.self.now c.head.result c.is_none.result c.head.ensures c.is_none.ensures c.if-is_none.true)

pub draw_nothing-requires-clause-waits : goal.draw_nothing-requires-clause-waits
draw_nothing-requires-clause-waits c = record { no_goal = c.requires.goal; no_pair = no_head c.args.self.now c.head.result c.is_none.result c.head.ensures c.is_none.ensures c.if-is_none.true }

pub returns-then-is_none-clause-drawn : goal.returns-then-is_none-clause-drawn
returns-then-is_none-clause-drawn c = c.draw_nothing.ensures.drawn (opening_of c.args.opening) c.args.worker

pub draw_pair-requires-clause-can : goal.draw_pair-requires-clause-can
draw_pair-requires-clause-can c =
    let e = c.drop_orphans.ensures in
    dropped_give c.args.opening.shelf (opening_of c.args.opening) c.args.self.now c.drop_orphans.new.self c.requires.can c.in_ok-drop_orphans.ensures.room e.others e.spare e.ticket

pub draw_pair-requires-clause-goal : goal.draw_pair-requires-clause-goal
draw_pair-requires-clause-goal c = ap (λ gs. first (λ (g : Target). is_continued g.stage) gs) c.drop_orphans.ensures.others.goals ∙ c.requires.goal

pub draw_pair-requires-clause-budget : goal.draw_pair-requires-clause-budget
draw_pair-requires-clause-budget c = budget_after (opening_of c.args.opening) c.args.self.now c.drop_orphans.new.self c.drop_orphans.ensures.others c.requires.budget

pub returns-clause-drawn : goal.returns-clause-drawn
returns-clause-drawn c = c.in_ok-drop_orphans.ensures.leads (opening_of c.args.opening) (reply_of c.args.worker c.draw_pair.result) (state_of c.draw_pair.new.self) c.draw_pair.ensures.drawn
