use Rattle.std.proofs.Common.{arith, ◌≡◌, [], ◌∷◌, length, sym, ◌∙◌, subst}
use Rattle.boxcar.specs.Table.{Shelves}
use Rattle.uc_shelf.specs.Entries.{born}
use Rattle.uc_machine.specs.declared.task.Finding.TheVariants.{Stale}
use Rattle.uc_book.specs.Openings.{opening_of}
use Rattle.uc_book.specs.Parts.{state_of, Fit}
use Rattle.uc_book.specs.Ending.{CanEnd}
use Rattle.uc_rows.specs.Rising.{AreRising, AreBelow}
use Rattle.uc_rows.specs.Deaths.{alive_of}
use Rattle.uc_rows.proofs.Items.{on_ok}
use Rattle.uc_book.proofs.VisitEnds.{meeting_born, falls_rise, falls_below, EndsAs, CommitsAt, stale_at}
use Rattle.uc_book.proofs.parts.Parts.bury.Goals as goal

pub returns-in_err-falls-clause-fit : goal.returns-in_err-falls-clause-fit
returns-in_err-falls-clause-fit g c = c.requires.can.fit

pub returns-in_err-falls-clause-room : goal.returns-in_err-falls-clause-room
returns-in_err-falls-clause-room g c = c.requires.can.room

pub visit-requires-clause-can : goal.visit-requires-clause-can
visit-requires-clause-can g c = let o = opening_of c.args.opening.now in (o, subst (λ (s : Shelves). CanEnd s o c.args.self.now) (sym c.requires.shelf) c.requires.can)

pub visit-requires-clause-open : goal.visit-requires-clause-open
visit-requires-clause-open g c = c.requires.open

pub visit-requires-clause-at : goal.visit-requires-clause-at
visit-requires-clause-at g c = c.requires.at

pub visit-requires-clause-rising : goal.visit-requires-clause-rising
visit-requires-clause-rising g c =
    let es = c.args.self.now.facts.front.entries in
    let e : c.as_slice.result.now ≡ alive_of es (c.args.fact ∷ []) = c.as_slice.ensures.value ∙ c.in_ok-falls.ensures in
    let rise : AreRising 0 (c.args.fact ∷ []) = (omega arith, tt) in
    subst (AreRising 0) (sym e) (falls_rise es (c.args.fact ∷ []) rise)

pub visit-requires-clause-born : goal.visit-requires-clause-born
visit-requires-clause-born g c =
    let es = c.args.self.now.facts.front.entries in
    let n = length (born es) in
    let at = c.requires.at in
    let e : c.as_slice.result.now ≡ alive_of es (c.args.fact ∷ []) = c.as_slice.ensures.value ∙ c.in_ok-falls.ensures in
    let below : AreBelow n (c.args.fact ∷ []) = (meeting_born c.args.opening.now.shelf (opening_of c.args.opening.now) c.args.self.now c.args.at at.0 c.args.fact c.requires.can at.1 (c.requires.job at.0 at.1), tt) in
    subst (AreBelow n) (sym e) (falls_below es n n (c.args.fact ∷ []) (omega arith) below)

pub returns-clause-ok : goal.returns-clause-ok
returns-clause-ok g c =
    let s = state_of c.args.self.now in
    let u = state_of c.visit.new.self in
    let o = opening_of c.args.opening.now in
    let tasks = c.args.self.now.tasks.items in
    let js = c.as_slice.result.now in
    let e : js ≡ alive_of s.entries (c.args.fact ∷ []) = c.as_slice.ensures.value ∙ c.in_ok-falls.ensures in
    on_ok {P = EndsAs c.limit.result c.args.fact c.args.killer js [] tasks c.args.at s u} {Q = CommitsAt o tasks c.args.at (Stale c.args.killer) s u} c.visit.result
    (stale_at o c.limit.result tasks c.args.at c.args.fact c.args.killer js s u (sym c.limit.ensures) c.requires.open c.requires.job e) c.visit.ensures.ok

pub returns-clause-err : goal.returns-clause-err
returns-clause-err g c = c.visit.ensures.err

pub returns-clause-fit : goal.returns-clause-fit
returns-clause-fit g c = subst (λ (s : Shelves). Fit s c.visit.new.self) c.requires.shelf c.visit.ensures.fit

pub returns-clause-room : goal.returns-clause-room
returns-clause-room g c = c.visit.ensures.room
