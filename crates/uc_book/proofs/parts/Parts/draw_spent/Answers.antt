use Rattle.std.proofs.Common.{refl, length, ◌∙◌, ap}
use Rattle.std.specs.Prelude.{vec_len}
use Rattle.uc_machine.specs.declared.event.Happening.TheVariants.{Close}
use Rattle.uc_machine.specs.declared.event.Verdict.TheVariants.{BudgetOut}
use Rattle.uc_machine.specs.Effects.{ending_of, next_ticket}
use Rattle.uc_book.proofs.Histories.{draws-none}
use Rattle.uc_book.proofs.Waiting.{none_by, some_by, spent_idle, spent_closed}
use Rattle.uc_book.proofs.parts.Parts.draw_spent.Goals as goal

pub returns-then-not-is_empty-clause-drawn : goal.returns-then-not-is_empty-clause-drawn
returns-then-not-is_empty-clause-drawn c = λ o spent.
    (let ts = c.args.self.now.tasks in spent_idle o c.args.worker c.args.self.now c.requires.late c.len.result c.requires.waits spent (c.len.ensures ∙ ts.ok.0) (some_by c.is_empty.result (vec_len ts) (length ts.items) c.is_empty.ensures ts.ok.0 c.if-not-is_empty.true))

pub returns-clause-drawn : goal.returns-clause-drawn
returns-clause-drawn c = λ o spent.
    (let ts = c.args.self.now.tasks in spent_closed o c.args.worker c.args.self.now c.requires.late _ c.requires.waits spent (none_by c.is_empty.result (vec_len ts) (length ts.items) c.is_empty.ensures ts.ok.0 c.if-not-is_empty.false) c.close.ensures.state)

pub returns-clause-ticket : goal.returns-clause-ticket
returns-clause-ticket c = ap next_ticket c.close.ensures.state ∙ ap length (draws-none c.args.self.now.history.items (record { worker = c.args.worker; what = Close (ending_of (BudgetOut c.args.self.now.counted)) }) refl)
