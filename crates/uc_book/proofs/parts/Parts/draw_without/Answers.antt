use Rattle.std.proofs.Common.{sym, ◌∙◌, ap, subst}
use Rattle.std.specs.Prelude.{Vec}
use Rattle.std.specs.declared.alloc.Global.{Global}
use Rattle.uc_machine.specs.Draws.{Draws, IsLate, IsSpent, Waits, NothingWaits}
use Rattle.uc_book.specs.declared.parts.Parts.{Parts}
use Rattle.uc_rows.specs.declared.tasks.TaskRow.{TaskRow}
use Rattle.uc_rows.specs.RowViews.{FactsView}
use Rattle.uc_book.specs.Openings.{opening_of}
use Rattle.uc_book.specs.Answers.{reply_of}
use Rattle.uc_book.specs.Parts.{state_of, Fit, HasRoom}
use Rattle.uc_book.proofs.Steady.{fit_as}
use Rattle.uc_book.proofs.parts.Parts.draw_without.Goals as goal

pub draw_spent-requires-clause-late : goal.draw_spent-requires-clause-late
draw_spent-requires-clause-late c = subst (λ (x : Parts). IsLate (state_of x)) (sym c.has_waiting.ensures.same) c.requires.late

pub draw_spent-requires-clause-waits : goal.draw_spent-requires-clause-waits
draw_spent-requires-clause-waits c = subst (λ (x : Parts). Waits (state_of x)) (sym c.has_waiting.ensures.same) (c.has_waiting.ensures.waits c.if-has_waiting.true)

pub draw_spent-requires-clause-few : goal.draw_spent-requires-clause-few
draw_spent-requires-clause-few c = (subst (λ (x : Parts). Fit c.args.opening.shelf x) (sym c.has_waiting.ensures.same) c.requires.fit).few

pub draw_spent-requires-clause-room : goal.draw_spent-requires-clause-room
draw_spent-requires-clause-room c = subst HasRoom (sym c.has_waiting.ensures.same) c.requires.room

pub returns-then-has_waiting-clause-drawn : goal.returns-then-has_waiting-clause-drawn
returns-then-has_waiting-clause-drawn c =
    let o = opening_of c.args.opening in
    subst (λ (x : Parts). Draws o c.args.worker (state_of x) (reply_of c.args.worker c.draw_spent.result) (state_of c.draw_spent.new.self)) c.has_waiting.ensures.same
    (c.draw_spent.ensures.drawn o (subst (λ (x : Parts). IsSpent o (state_of x)) (sym c.has_waiting.ensures.same) c.requires.spent))

pub returns-then-has_waiting-clause-front : goal.returns-then-has_waiting-clause-front
returns-then-has_waiting-clause-front c = ap (λ (f : FactsView). f.front) (c.draw_spent.ensures.subjects.facts ∙ ap (λ (x : Parts). x.facts) c.has_waiting.ensures.same)

pub returns-then-has_waiting-clause-fit : goal.returns-then-has_waiting-clause-fit
returns-then-has_waiting-clause-fit c =
    fit_as c.args.opening.shelf c.has_waiting.new.self c.draw_spent.new.self (subst (Fit c.args.opening.shelf) (sym c.has_waiting.ensures.same) c.requires.fit)
    (ap (λ (f : FactsView). f.front) c.draw_spent.ensures.subjects.facts) (ap (λ (ts : Vec TaskRow Global). ts.items) c.draw_spent.ensures.tasks.0) c.draw_spent.ensures.tasks.1 c.draw_spent.ensures.ticket c.draw_spent.ensures.numbers

pub draw_nothing-requires-clause-late : goal.draw_nothing-requires-clause-late
draw_nothing-requires-clause-late c = subst (λ (x : Parts). IsLate (state_of x)) (sym c.has_waiting.ensures.same) c.requires.late

pub draw_nothing-requires-clause-waits : goal.draw_nothing-requires-clause-waits
draw_nothing-requires-clause-waits c = subst (λ (x : Parts). NothingWaits (state_of x)) (sym c.has_waiting.ensures.same) (c.has_waiting.ensures.none c.if-has_waiting.false)

pub draw_nothing-requires-clause-few : goal.draw_nothing-requires-clause-few
draw_nothing-requires-clause-few c = (subst (λ (x : Parts). Fit c.args.opening.shelf x) (sym c.has_waiting.ensures.same) c.requires.fit).few

pub returns-clause-drawn : goal.returns-clause-drawn
returns-clause-drawn c =
    let o = opening_of c.args.opening in
    subst (λ (x : Parts). Draws o c.args.worker (state_of x) (reply_of c.args.worker c.draw_nothing.result) (state_of c.has_waiting.new.self)) c.has_waiting.ensures.same (c.draw_nothing.ensures.drawn o c.args.worker)

pub returns-clause-front : goal.returns-clause-front
returns-clause-front c = ap (λ (x : Parts). x.facts.front) c.has_waiting.ensures.same

pub returns-clause-fit : goal.returns-clause-fit
returns-clause-fit c = subst (Fit c.args.opening.shelf) (sym c.has_waiting.ensures.same) c.requires.fit

pub returns-clause-room : goal.returns-clause-room
returns-clause-room c = subst HasRoom (sym c.has_waiting.ensures.same) c.requires.room
