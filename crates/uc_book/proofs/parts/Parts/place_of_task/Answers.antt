use Rattle.std.proofs.Common.{◌≡◌, get_or, map, take, sym, ◌∙◌, ap}
use Rattle.std.proofs.lemmas.Bool.{false≢true}
use Rattle.uc_machine.specs.State.{Out, out_at}
use Rattle.uc_rows.specs.TaskRows.{out_of, HasFront}
use Rattle.uc_book.specs.Parts.{state_of}
use Rattle.uc_book.proofs.Standing.{row_out, each_row}
use Rattle.uc_book.proofs.Standing.{not_there, not_same}
use Rattle.uc_book.proofs.Steady.{on_none}
use Rattle.uc_book.proofs.parts.Parts.place_of_task.Goals as goal

pub returns-in_err-at-clause-none : goal.returns-in_err-at-clause-none
returns-in_err-at-clause-none c = on_none c.from_residual.result (not_there (state_of c.args.self.now) c.args.worker c.args.done.now (rw c.deref.ensures.value at c.in_err-at.ensures.none))

pub is_task_of-requires : goal.is_task_of-requires
is_task_of-requires c =
    let p = c.args.self.now in
    let found = rw c.deref.ensures.value at c.in_ok-at.ensures.some in
    let at : c.index.result.now ≡ get_or p.tasks.items c.in_ok-at.at c.index.result.now = c.index.ensures in
    record {
      row = (each_row (HasFront c.args.shelf.now p.facts.front.entries) p.tasks.items c.in_ok-at.at c.index.result.now found.2.inside at c.requires.fit.fronts).of;
      done = c.requires.of;
    }

pub returns-then-is_task_of-clause-some : goal.returns-then-is_task_of-clause-some
returns-then-is_task_of-clause-some c =
    let p = c.args.self.now in
    let found = rw c.deref.ensures.value at c.in_ok-at.ensures.some in
    let t = found.0 in
    let row = c.index.result.now in
    let same : out_of row ≡ t = row_out p.tasks.items c.in_ok-at.at t row found.2 c.index.ensures in
    let is = c.is_task_of.ensures.0 c.if-is_task_of.true in
    let front = each_row (HasFront c.args.shelf.now p.facts.front.entries) p.tasks.items c.in_ok-at.at row found.2.inside c.index.ensures c.requires.fit.fronts in (
      t,
      found.2,
      record {
        at = ap (λ n. out_at n (map out_of p.tasks.items)) (sym found.1) ∙ found.2.found;
        worker = ap (λ (u : Out). u.worker) (sym same) ∙ is.0;
        job_is = ap (λ (u : Out). u.job) (sym same) ∙ is.1;
        front_is = ap (λ (u : Out). take u.front p.facts.front.entries) (sym same) ∙ sym front.is ∙ is.2;
      },
    )

pub returns-else-is_task_of-clause-none : goal.returns-else-is_task_of-clause-none
returns-else-is_task_of-clause-none c =
    let p = c.args.self.now in
    let found = rw c.deref.ensures.value at c.in_ok-at.ensures.some in
    let t = found.0 in
    let row = c.index.result.now in
    let same : out_of row ≡ t = row_out p.tasks.items c.in_ok-at.at t row found.2 c.index.ensures in
    let front = each_row (HasFront c.args.shelf.now p.facts.front.entries) p.tasks.items c.in_ok-at.at row found.2.inside c.index.ensures c.requires.fit.fronts in
    not_same (state_of p) c.args.worker c.args.done.now t (ap (λ n. out_at n (map out_of p.tasks.items)) (sym found.1) ∙ found.2.found)
    (λ w j e. false≢true (sym c.if-is_task_of.false ∙ c.is_task_of.ensures.1 (ap (λ (u : Out). u.worker) same ∙ w, ap (λ (u : Out). u.job) same ∙ j, front.is ∙ ap (λ (u : Out). take u.front p.facts.front.entries) same ∙ e)))
