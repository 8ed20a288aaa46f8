use Rattle.std.proofs.Common.{◌≡◌, ◌∙◌, ap}
use Rattle.uc_machine.specs.declared.event.Verdict.TheVariants.{Proved}
use Rattle.uc_machine.specs.declared.event.Happening.{Happening}
use Rattle.uc_machine.specs.State.{State, Out}
use Rattle.uc_machine.specs.Effects.{closes, accepts}
use Rattle.uc_rows.specs.TaskRows.{out_of}
use Rattle.uc_book.specs.Parts.{state_of}
use Rattle.uc_book.proofs.Standing.{row_out}
use Rattle.uc_book.proofs.parts.Parts.prove.Goals as goal

pub returns-clause-state : goal.returns-clause-state
returns-clause-state c = λ t stands.
    (let p = c.args.self.now in
    let row = c.index.result.now in
    let same : out_of row ≡ t = row_out p.tasks.items c.args.at t row stands c.index.ensures in
    let worker : row.worker ≡ t.worker = ap (λ (u : Out). u.worker) same in
    c.close.ensures.state ∙ ap (λ w. closes w (Proved c.args.goal) (state_of c.accept.new.self)) worker
    ∙ ap (λ (s : State). closes t.worker (Proved c.args.goal) s) (c.accept.ensures.state t stands ∙ ap (λ (h : Happening). accepts t h (state_of p)) c.goal_event.ensures))
