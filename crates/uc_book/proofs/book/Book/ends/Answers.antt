use Rattle.std.proofs.Common.{arith, ◌≡◌, length}
use Rattle.uc_book.specs.Openings.{Opened, opening_of}
use Rattle.uc_book.specs.Parts.{state_of}
use Rattle.uc_book.proofs.GoalCount.{as_many_goals}
use Rattle.uc_book.proofs.book.Book.ends.Goals as goal

pub ends-requires : goal.ends-requires
ends-requires g c =
    let b = c.self.inside in
    let o : Opened = record { problem = b.problem.now; shelf = b.shelf.now; budget = b.budget; limit = b.limit } in
    let l = rw (← c.self.view_is) at c.requires in
    let many : length b.parts.goals ≡ length b.problem.now.goals = as_many_goals (g.O.Order.meaning b.order.now) (opening_of o) (state_of b.parts) c.self.invariant.reaches in
    omega (arith, l)
