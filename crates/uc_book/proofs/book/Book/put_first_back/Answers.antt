use Rattle.std.proofs.Common.{arith, refl, ◌≡◌, ◌<◌, ◌^◌, ◌+◌, length, sym, ◌∙◌, ap, subst}
use Rattle.std.proofs.lemmas.List.{length-map}
use Rattle.uc_machine.specs.Runs.{Reaches, reclaims_on}
use Rattle.uc_book.specs.Openings.{Opened, opening_of}
use Rattle.uc_rows.specs.TaskRows.{out_of}
use Rattle.uc_book.specs.Parts.{state_of}
use Rattle.uc_rows.proofs.PutBack.{some_first, recall_stands}
use Rattle.uc_book.proofs.Sound.{book_can_end}
use Rattle.uc_book.proofs.Standing.{can_return, returned_fit}
use Rattle.uc_book.proofs.Fitting.{room_ended}
use Rattle.uc_book.proofs.Booked.{next_book}
use Rattle.uc_rows.proofs.Items.{length-remove}
use Rattle.uc_book.proofs.book.Book.put_first_back.Goals as goal

pub put_back-requires-clause-at : goal.put_back-requires-clause-at
put_back-requires-clause-at g c = (let b = c.self.inside in let l = rw (← c.self.view_is) at c.requires in some_first b.parts.tasks.items (omega (arith, l, length-map b.parts.tasks.items out_of)))

pub put_back-requires-clause-can : goal.put_back-requires-clause-can
put_back-requires-clause-can g c =
    let b = c.self.inside in
    let o : Opened = record { problem = b.problem.now; shelf = b.shelf.now; budget = b.budget; limit = b.limit } in
    let few : length b.parts.history.items < 2 ^ 63 = omega (arith, b.parts.history.ok.0, b.parts.history.ok.1, b.parts.history.small) in
    λ t stands. can_return o.shelf (opening_of o) b.parts 0 t (book_can_end (g.O.Order.meaning b.order.now) o b.parts c.self.invariant few) stands

pub invariant_of-self : goal.invariant_of-self
invariant_of-self g c =
    let b = c.self.inside in
    let p = b.parts in
    let q = c.put_back.new.self in
    let l = rw (← c.self.view_is) at c.requires in
    let f = some_first p.tasks.items (omega (arith, l, length-map p.tasks.items out_of)) in
    let state = c.put_back.ensures.state f.0 f.1 in
    let m = g.O.Order.meaning b.order.now in
    let o : Opened = record { problem = b.problem.now; shelf = b.shelf.now; budget = b.budget; limit = b.limit } in
    next_book m o p q c.self.invariant
    (returned_fit b.shelf.now p q 0 f.0 c.self.invariant.fit f.1 state c.put_back.ensures.rest c.put_back.ensures.front)
    (room_ended p q 0 f.0 c.self.invariant.room f.1 c.put_back.ensures.rest (c.put_back.ensures.spare f.0 f.1))
    (subst (Reaches m (opening_of o)) (sym state) (reclaims_on f.0 f.1.found c.self.invariant.reaches))

pub returns-clause-state : goal.returns-clause-state
returns-clause-state g c =
    let p = c.self.inside.parts in
    let l = rw (← c.self.view_is) at c.requires in
    let f = some_first p.tasks.items (omega (arith, l, length-map p.tasks.items out_of)) in
    rw (← c.self.view_is) (recall_stands p.tasks.items f.0 (state_of p) (state_of c.put_back.new.self) f.1 refl (c.put_back.ensures.state f.0 f.1))

pub returns-clause-fewer : goal.returns-clause-fewer
returns-clause-fewer g c =
    let p = c.self.inside.parts in
    let q = c.put_back.new.self in
    let l = rw (← c.self.view_is) at c.requires in
    let f = some_first p.tasks.items (omega (arith, l, length-map p.tasks.items out_of)) in
    let a = length-remove p.tasks.items 0 f.1.inside in
    let e : length q.tasks.items + 1 ≡ length p.tasks.items = ap (λ ts. length ts + 1) c.put_back.ensures.rest.tasks ∙ a in
    rw (← c.self.view_is) (omega (arith, e, length-map q.tasks.items out_of, length-map p.tasks.items out_of))
