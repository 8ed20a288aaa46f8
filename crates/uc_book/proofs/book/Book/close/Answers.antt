use Rattle.std.proofs.Common.{arith, ap}
use Rattle.std.specs.Prelude.{Vec}
use Rattle.std.specs.declared.alloc.Global.{Global}
use Rattle.uc_machine.specs.Runs.{closes_on}
use Rattle.uc_rows.specs.declared.tasks.TaskRow.{TaskRow}
use Rattle.uc_rows.specs.RowViews.{FactsView, PairsView}
use Rattle.uc_book.specs.Openings.{Opened}
use Rattle.uc_book.specs.Parts.{state_of, closings}
use Rattle.uc_book.proofs.Standing.{closed_fit, closed_room}
use Rattle.uc_book.proofs.Booked.{next_book, closed_by}
use Rattle.uc_book.proofs.book.Book.close.Goals as goal

pub close-requires : goal.close-requires
close-requires g c =
    let d = rw (← c.self.view_is) at c.requires.drained in
    let n = ap closings d.none_unmet.none_due.open_ in
    omega (arith, n, c.self.invariant.room.events)

pub invariant_of-self : goal.invariant_of-self
invariant_of-self g c =
    let b = c.self.inside in
    let o : Opened = record { problem = b.problem.now; shelf = b.shelf.now; budget = b.budget; limit = b.limit } in
    let d = rw (← c.self.view_is) at c.requires.drained in
    let f = rw (← c.self.view_is) at c.requires.final_pass in
    let e = c.close.ensures in
    let m = g.O.Order.meaning b.order.now in
    let p = b.parts in
    let q = c.close.new.self in
    let v = c.verdict_of-verdict.result in
    let front = ap (λ (x : FactsView). x.front) e.subjects.facts in
    let tasks = ap (λ (ts : Vec TaskRow Global). ts.items) e.tasks.0 in
    next_book m o p q c.self.invariant
    (closed_fit o.shelf p q 0 v c.self.invariant.fit e.state front e.tasks.1 tasks)
    (closed_room p q 0 v c.self.invariant.room d.none_unmet.none_due.open_ e.state tasks e.history e.capacity (ap (λ (x : PairsView). x.spare) e.subjects.pairs))
    (closes_on d f c.self.invariant.reaches (closed_by (state_of p) (state_of q) c.args.outcome.now v c.verdict_of-verdict.ensures e.state))

pub returns-clause-closed : goal.returns-clause-closed
returns-clause-closed g c = rw (← c.self.view_is) (closed_by (state_of c.self.inside.parts) (state_of c.close.new.self) c.args.outcome.now c.verdict_of-verdict.result c.verdict_of-verdict.ensures c.close.ensures.state)
