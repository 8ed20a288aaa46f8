use Rattle.std.proofs.Common.{◌≡◌, sym, ◌∙◌, ap}
use Rattle.uc_machine.specs.State.{Out}
use Rattle.uc_book.specs.Openings.{opening_of}
use Rattle.uc_rows.specs.TaskRows.{out_of}
use Rattle.uc_book.specs.Parts.{state_of}
use Rattle.uc_book.proofs.Standing.{row_out, can_return, returned_fit}
use Rattle.uc_book.proofs.Fitting.{room_ended}
use Rattle.uc_book.proofs.Reclaiming.{not_out, not_his, reclaimed}
use Rattle.uc_book.proofs.parts.Parts.reclaim.Goals as goal

pub returns-in_default-clause-refused : goal.returns-in_default-clause-refused
returns-in_default-clause-refused c = not_out (state_of c.args.self.now) c.args.worker c.args.ticket (rw c.deref.ensures.value at c.in_default.ensures.none)

pub returns-then-index-worker-clause-refused : goal.returns-then-index-worker-clause-refused
returns-then-index-worker-clause-refused c =
    let p = c.args.self.now in
    let found = rw c.deref.ensures.value at c.in-Some.ensures.some in
    let row = c.index.result.now in
    let same : out_of row ≡ found.0 = row_out p.tasks.items c.in-Some.at found.0 row found.2 c.index.ensures in
    not_his (state_of p) c.args.worker c.args.ticket found.0 found.1 found.2.found (λ e. (let bad : row.worker ≡ c.args.worker = ap (λ (t : Out). t.worker) same ∙ e in absurd (c.if-index-worker.true bad)))

pub put_back-requires-clause-at : goal.put_back-requires-clause-at
put_back-requires-clause-at c = let found = rw c.deref.ensures.value at c.in-Some.ensures.some in (found.0, found.2)

pub put_back-requires-clause-can : goal.put_back-requires-clause-can
put_back-requires-clause-can c = λ t stands. can_return c.args.opening.now.shelf (opening_of c.args.opening.now) c.args.self.now c.in-Some.at t c.requires stands

pub returns-clause-reclaimed : goal.returns-clause-reclaimed
returns-clause-reclaimed c =
    let p = c.args.self.now in
    let found = rw c.deref.ensures.value at c.in-Some.ensures.some in
    let row = c.index.result.now in
    let same : out_of row ≡ found.0 = row_out p.tasks.items c.in-Some.at found.0 row found.2 c.index.ensures in
    let his : found.0.worker ≡ c.args.worker = ap (λ (t : Out). t.worker) (sym same) ∙ c.if-index-worker.false in
    reclaimed (state_of p) (state_of c.put_back.new.self) c.args.worker c.args.ticket found.0 found.1 found.2.found his (c.put_back.ensures.state found.0 found.2)

pub returns-clause-fit : goal.returns-clause-fit
returns-clause-fit c =
    let found = rw c.deref.ensures.value at c.in-Some.ensures.some in
    returned_fit c.args.opening.now.shelf c.args.self.now c.put_back.new.self c.in-Some.at found.0 c.requires.fit found.2 (c.put_back.ensures.state found.0 found.2) c.put_back.ensures.rest c.put_back.ensures.front

pub returns-clause-room : goal.returns-clause-room
returns-clause-room c =
    let found = rw c.deref.ensures.value at c.in-Some.ensures.some in
    room_ended c.args.self.now c.put_back.new.self c.in-Some.at found.0 c.requires.room found.2 c.put_back.ensures.rest (c.put_back.ensures.spare found.0 found.2)
