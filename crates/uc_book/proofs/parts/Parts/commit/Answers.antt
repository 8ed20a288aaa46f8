use Rattle.std.proofs.Common.{arith, refl, ◌≡◌, sym, ◌∙◌, ap, subst}
use Rattle.boxcar.specs.Table.{Shelves}
use Rattle.uc_shelf.specs.Fronts.{IsOf}
use Rattle.uc_machine.specs.declared.event.Happening.TheVariants.{CommitLate}
use Rattle.uc_book.specs.Openings.{opening_of}
use Rattle.uc_book.specs.Parts.{state_of, Fit}
use Rattle.uc_book.proofs.Booked.{at_ticket}
use Rattle.uc_book.proofs.Standing.{can_accept, late_fit}
use Rattle.uc_book.proofs.Fitting.{room_ended}
use Rattle.uc_book.proofs.Finishing.{late, same_place_job}
use Rattle.uc_book.proofs.parts.Parts.commit.Goals as goal

pub place_of_task-requires : goal.place_of_task-requires
place_of_task-requires g c = record {
  fit = subst (λ (s : Shelves). Fit s c.args.self.now) (sym c.requires.shelf) c.requires.can.fit;
  of = subst (λ (s : Shelves). IsOf s c.args.done.front) (sym c.requires.shelf) c.requires.of;
}

pub accept-requires-clause-at : goal.accept-requires-clause-at
accept-requires-clause-at g c = let f = c.in-Some.ensures.some in (f.0, f.1)

pub accept-requires-clause-can : goal.accept-requires-clause-can
accept-requires-clause-can g c = λ t stands. can_accept c.args.opening.now.shelf (opening_of c.args.opening.now) c.args.self.now c.in-Some.at t c.requires.can stands

pub returns-then-is_some-clause-committed : goal.returns-then-is_some-clause-committed
returns-then-is_some-clause-committed g c =
    let p = c.args.self.now in
    let f = c.in-Some.ensures.some in
    let ticket : f.0.ticket ≡ c.args.done.ticket = at_ticket c.args.done.ticket (state_of p).out f.0 f.2.at in
    record {
      task = f.0;
      out = f.2;
      commits = late (opening_of c.args.opening.now) f.0 c.args.done.ticket c.args.done.found (state_of p) (state_of c.accept.new.self) (sym c.is_some.ensures ∙ c.if-is_some.true) ticket (c.accept.ensures.state f.0 f.1);
      event = omega (arith, p.history.ok.0);
    }

pub returns-then-is_some-clause-fit : goal.returns-then-is_some-clause-fit
returns-then-is_some-clause-fit g c =
    let p = c.args.self.now in
    let f = c.in-Some.ensures.some in
    late_fit c.args.opening.now.shelf p c.accept.new.self c.in-Some.at f.0 (CommitLate c.args.done.ticket) c.requires.can.fit f.1 (c.accept.ensures.state f.0 f.1) refl c.accept.ensures.rest.next c.accept.ensures.rest.tasks (ap (λ v. v.front) c.accept.ensures.subjects.facts)

pub returns-then-is_some-clause-room : goal.returns-then-is_some-clause-room
returns-then-is_some-clause-room g c =
    let p = c.args.self.now in
    let f = c.in-Some.ensures.some in
    room_ended p c.accept.new.self c.in-Some.at f.0 c.requires.can.room f.1 c.accept.ensures.rest (let e = ap (λ v. v.spare) c.accept.ensures.subjects.pairs in omega (arith, e))

pub take_in-requires-clause-at : goal.take_in-requires-clause-at
take_in-requires-clause-at g c = let f = c.in-Some.ensures.some in (f.0, f.1)

pub take_in-requires-clause-job : goal.take_in-requires-clause-job
take_in-requires-clause-job g c = λ t stands. (let f = c.in-Some.ensures.some in same_place_job c.args.self.now.tasks.items c.in-Some.at f.0 t c.args.done.job f.1 stands f.2.job_is)

pub returns-in-Ok-clause-committed : goal.returns-in-Ok-clause-committed
returns-in-Ok-clause-committed g c =
    let p = c.args.self.now in
    let f = c.in-Some.ensures.some in
    record {
      task = f.0;
      out = f.2;
      commits = c.in-Ok.ensures.ok f.0 f.1;
      event = omega (arith, p.history.ok.0);
    }

pub returns-in-Err-clause-refused : goal.returns-in-Err-clause-refused
returns-in-Err-clause-refused g c = let f = c.in-Some.ensures.some in (c.in-Err.ensures.back, λ none. none f.0 f.2)
