use Rattle.std.proofs.Common.{arith, ◌<◌, ◌^◌, length, sym, subst}
use Rattle.uc_book.specs.Openings.{Opened, opening_of}
use Rattle.uc_book.specs.Ending.{CanEnd}
use Rattle.uc_book.proofs.Sound.{book_can_end}
use Rattle.uc_book.proofs.Booked.{reclaimed_book}
use Rattle.uc_book.proofs.book.Book.reclaim.Goals as goal

pub reclaim-requires : goal.reclaim-requires
reclaim-requires g c =
    let b = c.self.inside in
    let o : Opened = record { problem = b.problem.now; shelf = b.shelf.now; budget = b.budget; limit = b.limit } in
    let is = rw (← c.self.view_is) at c.opening-opening.ensures in
    let few : length b.parts.history.items < 2 ^ 63 = omega (arith, b.parts.history.ok.0, b.parts.history.ok.1, b.parts.history.small) in
    subst (λ (x : Opened). CanEnd x.shelf (opening_of x) b.parts) (sym is) (book_can_end (g.O.Order.meaning b.order.now) o b.parts c.self.invariant few)

pub invariant_of-self : goal.invariant_of-self
invariant_of-self g c =
    let b = c.self.inside in
    let o : Opened = record { problem = b.problem.now; shelf = b.shelf.now; budget = b.budget; limit = b.limit } in
    let is = rw (← c.self.view_is) at c.opening-opening.ensures in
    reclaimed_book (g.O.Order.meaning b.order.now) o c.worker.result c.args.ticket b.parts c.reclaim.new.self c.reclaim.result c.self.invariant c.reclaim.ensures.reclaimed c.reclaim.ensures.err (rw is at c.reclaim.ensures.fit) c.reclaim.ensures.room
