use Rattle.std.proofs.Common.{ap, sym, ◌∙◌, subst}
use Rattle.uc_machine.specs.declared.task.Job.{Job}
use Rattle.uc_machine.specs.Effects.{hands_out}
use Rattle.uc_book.specs.Parts.{state_of, IsAtHead}
use Rattle.uc_book.proofs.Fitting.{fit_given, room_given}
use Rattle.uc_book.proofs.parts.Parts.give.Goals as goal

pub hand_out-requires-clause-head : goal.hand_out-requires-clause-head
hand_out-requires-clause-head c = subst (IsAtHead c.args.self.now) (sym c.requires.jobs) c.requires.head

pub returns-clause-state : goal.returns-clause-state
returns-clause-state c = c.hand_out.ensures.state ∙ ap (λ (j : Job). hands_out c.args.worker j (state_of c.args.self.now)) c.requires.jobs

pub returns-clause-fit : goal.returns-clause-fit
returns-clause-fit c =
    let p = c.args.self.now in
    fit_given c.args.opening.shelf p c.hand_out.new.self (record { ticket = p.next; worker = c.args.worker; job = c.args.jobs.1; front = c.args.fronts.1 })
    c.requires.can.fit c.hand_out.ensures.state c.hand_out.ensures.front c.hand_out.ensures.next c.hand_out.ensures.tasks c.requires.kept c.requires.can.few

pub returns-clause-room : goal.returns-clause-room
returns-clause-room c =
    let p = c.args.self.now in
    room_given p c.hand_out.new.self (record { ticket = p.next; worker = c.args.worker; job = c.args.jobs.1; front = c.args.fronts.1 })
    c.requires.can.room c.requires.can.room_events c.hand_out.ensures.tasks c.hand_out.ensures.verdict c.hand_out.ensures.history c.hand_out.ensures.capacity c.hand_out.ensures.spare
