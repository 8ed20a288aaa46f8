use Rattle.std.proofs.Common.{arith, ◌≡◌, ◌<◌, ◌^◌, length, sym, ap, subst}
use Rattle.uc_shelf.specs.Fronts.{IsOf}
use Rattle.uc_book.specs.Openings.{Opened, opening_of}
use Rattle.uc_book.specs.Answers.{IsRefused}
use Rattle.uc_book.specs.Parts.{state_of}
use Rattle.uc_book.specs.Ending.{CanEnd}
use Rattle.uc_book.proofs.Fitness.{result_for}
use Rattle.uc_book.proofs.Sound.{book_can_end}
use Rattle.uc_book.proofs.Booked.{committed_book}
use Rattle.uc_book.proofs.book.Book.commit.Goals as goal

pub commit-requires : goal.commit-requires
commit-requires g c =
    let b = c.self.inside in
    let o : Opened = record { problem = b.problem.now; shelf = b.shelf.now; budget = b.budget; limit = b.limit } in
    let is = rw (← c.self.view_is) at c.opening-opening.ensures in
    let few : length b.parts.history.items < 2 ^ 63 = omega (arith, b.parts.history.ok.0, b.parts.history.ok.1, b.parts.history.small) in
    let of = rw (← c.self.view_is) at c.requires.of in
    let right = rw (← c.self.view_is) at c.requires.right in
    let d = c.args.done in
    record {
      shelf = sym (ap (λ (x : Opened). x.shelf) is);
      can = subst (λ (x : Opened). CanEnd x.shelf (opening_of x) b.parts) (sym is) (book_can_end (g.O.Order.meaning b.order.now) o b.parts c.self.invariant few);
      of = subst (λ (x : Opened). IsOf x.shelf d.front) (sym is) of;
      found = result_for (g.O.Order.meaning b.order.now) d.opening.problem.axioms d.front.entries d.job d.found right;
    }

pub invariant_of-self : goal.invariant_of-self
invariant_of-self g c =
    let b = c.self.inside in
    let o : Opened = record { problem = b.problem.now; shelf = b.shelf.now; budget = b.budget; limit = b.limit } in
    let is = rw (← c.self.view_is) at c.opening-opening.ensures in
    let of = rw (← c.self.view_is) at c.requires.opening in
    let right = rw (← c.self.view_is) at c.requires.right in
    committed_book (g.O.Order.meaning b.order.now) o c.worker.result c.args.done b.parts c.commit.new.self c.commit.result c.self.invariant right of (rw is at c.commit.ensures.committed) c.commit.ensures.err (rw is at c.commit.ensures.fit) c.commit.ensures.room

pub returns-clause-refused : goal.returns-clause-refused
returns-clause-refused g c = rw (← c.self.view_is) (subst (λ w. (c.in-Err.refused.0 ≡ c.args.done) × IsRefused (state_of c.self.inside.parts) w c.args.done c.in-Err.refused.1) c.worker.ensures.value c.in-Err.ensures.refused)
