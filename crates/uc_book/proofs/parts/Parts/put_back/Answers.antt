use Rattle.std.proofs.Common.{◌≡◌, ◌-◌, ◌++◌, ◌∷◌, [], map, sym, ap, ◌∙◌}
use Rattle.std.specs.Prelude.{Vec}
use Rattle.std.specs.declared.alloc.Global.{Global}
use Rattle.uc_machine.specs.declared.event.Event.{Event}
use Rattle.uc_machine.specs.declared.state.Numbers.{Numbers}
use Rattle.uc_machine.specs.declared.task.Job.{Job}
use Rattle.uc_machine.specs.Lists.{change}
use Rattle.uc_machine.specs.State.{State, Out, without}
use Rattle.uc_machine.specs.Effects.{unit_of, one_reclaim, restores, reclaim_event}
use Rattle.uc_rows.specs.TaskRows.{out_of}
use Rattle.uc_book.specs.Parts.{state_of}
use Rattle.uc_book.proofs.Handing.{returned}
use Rattle.uc_book.proofs.Standing.{row_out}
use Rattle.uc_book.proofs.parts.Parts.put_back.Goals as goal

pub returns-clause-state : goal.returns-clause-state
returns-clause-state c = λ t stands.
    (let p = c.args.self.now in
    let q = c.restore.new.self in
    let row = c.remove-row.result in
    let same : out_of row ≡ t = row_out p.tasks.items c.args.at t row stands c.remove-row.ensures.value in
    let unit : c.units.result ≡ unit_of t.job = c.units.ensures ∙ ap (λ (u : Out). unit_of u.job) same in
    let worker : row.worker ≡ t.worker = ap (λ (u : Out). u.worker) same in
    let job : row.job ≡ t.job = ap (λ (u : Out). u.job) same in
    let out : map out_of c.remove-row.new.self.items ≡ without t.ticket (map out_of p.tasks.items) = ap (map out_of) c.remove-row.ensures.items ∙ sym stands.others in
    let before : state_of q ≡ restores t.job (let v : State = record (state_of p) { out = map out_of c.remove-row.new.self.items; reserved = p.reserved - c.units.result } in v)
    = c.restore.ensures.state ∙ ap (λ (j : Job). restores j (let v : State = record (state_of p) { out = map out_of c.remove-row.new.self.items; reserved = p.reserved - c.units.result } in v)) job in
    let numbers : c.count_reclaim.new.numbers.items ≡ change one_reclaim p.numbers.items t.worker = c.count_reclaim.ensures ∙ ap (λ (ns : Vec Numbers Global). change one_reclaim ns.items row.worker) c.restore.ensures.rest.numbers ∙ ap (change one_reclaim p.numbers.items) worker in
    let history : c.push_reserved.new.self.items ≡ p.history.items ++ record { worker = t.worker; what = reclaim_event t.job } ∷ []
    = c.push_reserved.ensures.items ∙ ap (λ (h : Vec Event Global). h.items ++ record { worker = row.worker; what = c.reclaim_event.result } ∷ []) c.restore.ensures.rest.history
    ∙ ap (λ w. p.history.items ++ record { worker = w; what = c.reclaim_event.result } ∷ []) worker ∙ ap (λ e. p.history.items ++ record { worker = t.worker; what = e } ∷ []) (c.reclaim_event.ensures ∙ ap reclaim_event job) in
    returned (state_of p) (state_of q) t (map out_of c.remove-row.new.self.items) (p.reserved - c.units.result) c.count_reclaim.new.numbers.items c.push_reserved.new.self.items
    before out (ap (λ n. p.reserved - n) unit) numbers history)
