use Rattle.std.proofs.Common.{arith, refl, ◌<◌, ◌^◌, length, sym, subst}
use Rattle.uc_book.specs.Openings.{Opened, opening_of}
use Rattle.uc_book.specs.Parts.{state_of, Fit}
use Rattle.uc_book.specs.Drawing.{IsSound}
use Rattle.uc_book.proofs.Sound.{book_sound}
use Rattle.uc_runs.proofs.Origins.{origins_known}
use Rattle.uc_book.proofs.Booked.{drawn_book, task_known}
use Rattle.uc_book.proofs.book.Book.draw.Goals as goal

pub draw-requires : goal.draw-requires
draw-requires g c =
    let b = c.self.inside in
    let o : Opened = record { problem = b.problem.now; shelf = b.shelf.now; budget = b.budget; limit = b.limit } in
    let is = rw (← c.self.view_is) at c.opening-opening.ensures in
    let few : length b.parts.history.items < 2 ^ 63 = omega (arith, b.parts.history.ok.0, b.parts.history.ok.1, b.parts.history.small) in
    record {
      sound = subst (λ (x : Opened). IsSound (opening_of x) b.parts) (sym is) (book_sound (g.O.Order.meaning b.order.now) o b.parts c.self.invariant few);
      fit = subst (λ (x : Opened). Fit x.shelf b.parts) (sym is) c.self.invariant.fit;
      room = c.self.invariant.room;
    }

pub invariant_of-self : goal.invariant_of-self
invariant_of-self g c =
    let b = c.self.inside in
    let o : Opened = record { problem = b.problem.now; shelf = b.shelf.now; budget = b.budget; limit = b.limit } in
    let is = rw (← c.self.view_is) at c.opening-opening.ensures in
    drawn_book (g.O.Order.meaning b.order.now) o c.worker.result b.parts c.draw.new.self c.draw.result c.worker.ensures.few c.self.invariant (rw is at c.draw.ensures.drawn) c.draw.ensures.err (rw is at c.draw.ensures.fit) c.draw.ensures.room

pub returns-clause-task : goal.returns-clause-task
returns-clause-task g c =
    let b = c.self.inside in
    let m = g.O.Order.meaning b.order.now in
    let o : Opened = record { problem = b.problem.now; shelf = b.shelf.now; budget = b.budget; limit = b.limit } in
    let is = rw (← c.self.view_is) at c.opening-opening.ensures in
    rw (← c.self.view_is) (task_known m (record { opening = o; order = b.order.now; state = state_of b.parts; front = b.parts.facts.front; enrolled = b.workers.items }) c.worker.result (state_of c.draw.new.self) c.draw.result
    c.self.invariant.reaches (origins_known m (opening_of o) (state_of b.parts) c.self.invariant.reaches) c.self.invariant.fit.front refl (rw is at c.draw.ensures.drawn) (rw is at c.draw.ensures.task))
