use Rattle.std.proofs.Common.{arith, ◌≡◌, length}
use Rattle.uc_book.specs.Openings.{Opened, opening_of}
use Rattle.uc_book.specs.Parts.{state_of}
use Rattle.uc_book.proofs.GoalCount.{as_many_goals, few_stages}
use Rattle.uc_book.proofs.book.Book.stages.Goals as goal

pub returns-clause-few : goal.returns-clause-few
returns-clause-few g c =
    let b = c.self.inside in
    let o : Opened = record { problem = b.problem.now; shelf = b.shelf.now; budget = b.budget; limit = b.limit } in
    let many : length b.parts.goals ≡ length b.problem.now.goals = as_many_goals (g.O.Order.meaning b.order.now) (opening_of o) (state_of b.parts) c.self.invariant.reaches in
    few_stages c.stages.result b.parts.goals c.stages.ensures (omega (arith, many, c.self.invariant.few_goals))
