use Rattle.std.proofs.Common.{arith, ◌≡◌, ◌<◌, [], length, true, false, sym, ◌∙◌, subst}
use Rattle.boxcar.specs.Table.{Shelves}
use Rattle.uc_shelf.specs.Entries.{born, is_dead}
use Rattle.uc_machine.specs.declared.task.Finding.TheVariants.{Met}
use Rattle.uc_book.specs.Openings.{opening_of}
use Rattle.uc_book.specs.Parts.{state_of, Fit}
use Rattle.uc_book.specs.Ending.{CanEnd}
use Rattle.uc_rows.specs.Rising.{AreRising, AreBelow}
use Rattle.uc_rows.specs.Deaths.{alive_of}
use Rattle.uc_rows.proofs.Items.{on_ok}
use Rattle.uc_book.proofs.VisitEnds.{meeting_born, falls_rise, falls_below, EndsAs, CommitsAt, dead_at, met_at}
use Rattle.uc_book.proofs.parts.Parts.meet.Goals as goal

pub visit-requires-clause-can : goal.visit-requires-clause-can
visit-requires-clause-can g c = let o = opening_of c.args.opening.now in (o, subst (λ (s : Shelves). CanEnd s o c.args.self.now) (sym c.requires.shelf) c.requires.can)

pub visit-requires-clause-open : goal.visit-requires-clause-open
visit-requires-clause-open g c = c.requires.open

pub visit-requires-clause-at : goal.visit-requires-clause-at
visit-requires-clause-at g c = c.requires.at

pub returns-then-is_dead-clause-ok : goal.returns-then-is_dead-clause-ok
returns-then-is_dead-clause-ok g c =
    let s = state_of c.args.self.now in
    let u = state_of c.visit.new.self in
    let o = opening_of c.args.opening.now in
    let tasks = c.args.self.now.tasks.items in
    let dead : is_dead s.entries c.args.fact ≡ true = sym c.is_dead.ensures ∙ c.if-is_dead.true in
    on_ok {P = EndsAs c.limit.result c.args.fact c.args.fact [] [] tasks c.args.at s u} {Q = CommitsAt o tasks c.args.at (Met c.args.kills.now c.args.overlaps.now) s u} c.visit.result
    (dead_at o c.limit.result tasks c.args.at c.args.fact c.args.kills.now c.args.overlaps.now s u (sym c.limit.ensures) c.requires.open c.requires.job dead) c.visit.ensures.ok

pub returns-then-is_dead-clause-err : goal.returns-then-is_dead-clause-err
returns-then-is_dead-clause-err g c = c.visit.ensures.err

pub returns-then-is_dead-clause-fit : goal.returns-then-is_dead-clause-fit
returns-then-is_dead-clause-fit g c = subst (λ (s : Shelves). Fit s c.visit.new.self) c.requires.shelf c.visit.ensures.fit

pub returns-then-is_dead-clause-room : goal.returns-then-is_dead-clause-room
returns-then-is_dead-clause-room g c = c.visit.ensures.room

pub returns-in_err-falls-clause-fit : goal.returns-in_err-falls-clause-fit
returns-in_err-falls-clause-fit g c = c.requires.can.fit

pub returns-in_err-falls-clause-room : goal.returns-in_err-falls-clause-room
returns-in_err-falls-clause-room g c = c.requires.can.room

pub visit-requires-2-clause-can : goal.visit-requires-2-clause-can
visit-requires-2-clause-can g c = let o = opening_of c.args.opening.now in (o, subst (λ (s : Shelves). CanEnd s o c.args.self.now) (sym c.requires.shelf) c.requires.can)

pub visit-requires-2-clause-open : goal.visit-requires-2-clause-open
visit-requires-2-clause-open g c = c.requires.open

pub visit-requires-2-clause-at : goal.visit-requires-2-clause-at
visit-requires-2-clause-at g c = c.requires.at

pub visit-requires-2-clause-rising : goal.visit-requires-2-clause-rising
visit-requires-2-clause-rising g c =
    let es = c.args.self.now.facts.front.entries in
    let e : c.as_slice.result.now ≡ alive_of es c.args.kills.now = c.as_slice.ensures.value ∙ c.in_ok-falls.ensures in
    subst (AreRising 0) (sym e) (falls_rise es c.args.kills.now c.requires.kills.0)

pub visit-requires-2-clause-born : goal.visit-requires-2-clause-born
visit-requires-2-clause-born g c =
    let es = c.args.self.now.facts.front.entries in
    let n = length (born es) in
    let at = c.requires.at in
    let e : c.as_slice.result.now ≡ alive_of es c.args.kills.now = c.as_slice.ensures.value ∙ c.in_ok-falls.ensures in
    let b : c.args.fact < n = meeting_born c.args.opening.now.shelf (opening_of c.args.opening.now) c.args.self.now c.args.at at.0 c.args.fact c.requires.can at.1 (c.requires.job at.0 at.1) in
    subst (AreBelow n) (sym e) (falls_below es c.args.fact n c.args.kills.now (omega (arith, b)) c.requires.kills.1)

pub returns-clause-ok : goal.returns-clause-ok
returns-clause-ok g c =
    let s = state_of c.args.self.now in
    let u = state_of c.visit-2.new.self in
    let o = opening_of c.args.opening.now in
    let tasks = c.args.self.now.tasks.items in
    let js = c.as_slice.result.now in
    let fs = c.args.overlaps.now in
    let e : js ≡ alive_of s.entries c.args.kills.now = c.as_slice.ensures.value ∙ c.in_ok-falls.ensures in
    let alive : is_dead s.entries c.args.fact ≡ false = sym c.is_dead.ensures ∙ c.if-is_dead.false in
    on_ok {P = EndsAs c.limit-2.result c.args.fact c.args.fact js fs tasks c.args.at s u} {Q = CommitsAt o tasks c.args.at (Met c.args.kills.now fs) s u} c.visit-2.result
    (met_at o c.limit-2.result tasks c.args.at c.args.fact c.args.kills.now js fs s u (sym c.limit-2.ensures) c.requires.open c.requires.job alive c.requires.kills.0 e) c.visit-2.ensures.ok

pub returns-clause-err : goal.returns-clause-err
returns-clause-err g c = c.visit-2.ensures.err

pub returns-clause-fit : goal.returns-clause-fit
returns-clause-fit g c = subst (λ (s : Shelves). Fit s c.visit-2.new.self) c.requires.shelf c.visit-2.ensures.fit

pub returns-clause-room : goal.returns-clause-room
returns-clause-room g c = c.visit-2.ensures.room
