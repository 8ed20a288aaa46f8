use Rattle.std.proofs.Common.{◌≡◌, ◌+◌, ◌-◌, ◌++◌, ◌∷◌, [], map, sym, ap, ◌∙◌}
use Rattle.uc_machine.specs.Lists.{change}
use Rattle.uc_machine.specs.State.{Out, without}
use Rattle.uc_machine.specs.Effects.{unit_of, one_commit}
use Rattle.uc_rows.specs.TaskRows.{out_of}
use Rattle.uc_book.specs.Parts.{state_of}
use Rattle.uc_book.proofs.Handing.{accepted}
use Rattle.uc_book.proofs.Standing.{row_out}
use Rattle.uc_book.proofs.parts.Parts.accept.Goals as goal

pub returns-clause-state : goal.returns-clause-state
returns-clause-state c = λ t stands.
    (let p = c.args.self.now in
    let row = c.remove-row.result in
    let same : out_of row ≡ t = row_out p.tasks.items c.args.at t row stands c.remove-row.ensures.value in
    let unit : c.units-unit.result ≡ unit_of t.job = c.units-unit.ensures ∙ ap (λ (u : Out). unit_of u.job) same in
    let worker : row.worker ≡ t.worker = ap (λ (u : Out). u.worker) same in
    let out : map out_of c.remove-row.new.self.items ≡ without t.ticket (map out_of p.tasks.items) = ap (map out_of) c.remove-row.ensures.items ∙ sym stands.others in
    accepted (state_of p) t c.args.what (map out_of c.remove-row.new.self.items) (p.counted + c.units-unit.result) (p.reserved - c.units-unit.result) c.count_commit.new.numbers.items c.push_reserved.new.self.items
    out (ap (λ n. p.reserved - n) unit) (ap (λ n. p.counted + n) unit) (c.count_commit.ensures ∙ ap (change one_commit p.numbers.items) worker)
    (c.push_reserved.ensures.items ∙ ap (λ w. p.history.items ++ record { worker = w; what = c.args.what } ∷ []) worker))
