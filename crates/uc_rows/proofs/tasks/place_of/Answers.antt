use Rattle.std.proofs.Common.{◌≡◌, ◌<◌, arith, length, get_or, sym, ap, ◌∙◌}
use Rattle.std.proofs.lemmas.List.{get_or_read}
use Rattle.uc_rows.specs.declared.tasks.TaskRow.{TaskRow}
use Rattle.uc_rows.specs.TaskRows.{out_of}
use Rattle.uc_rows.proofs.PutBack.{stands-at, out-none}
use Rattle.uc_rows.proofs.tasks.place_of.Goals as goal

pub returns-then-tasks-k-clause-some : goal.returns-then-tasks-k-clause-some
returns-then-tasks-k-clause-some c =
    let x = c.index-tasks-k.result in
    let ts = c.args.tasks.now in
    let k = c.loop-k.k in
    let l : k < length ts = omega arith in
    let at : x ≡ get_or ts k x = c.index-tasks-k.is in
    let same : (get_or ts k x).ticket ≡ c.args.ticket = c.if-tasks-k.true in
    let q = λ (e : TaskRow). (ap (λ (t : TaskRow). t.ticket) (sym (get_or_read ts k x l at e) ∙ get_or_read ts k x l at x) ∙ same) in
    (out_of (get_or ts k x), q x, stands-at ts c.args.ticket k x l q c.loop-k.invariant)

pub returns-clause-none : goal.returns-clause-none
returns-clause-none c = out-none c.args.tasks.now c.args.ticket (λ k d b. c.loop-k.invariant k d (omega arith))
