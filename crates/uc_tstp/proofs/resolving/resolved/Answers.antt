use Rattle.std.proofs.Common.{sym, ◌∙◌}
use Rattle.std.proofs.lemmas.Result.{err_from_is_err_and}
use Rattle.uc_tstp.proofs.Resolved.{next_line, all_lines, lacks_in_line}
use Rattle.uc_tstp.proofs.resolving.resolved.Goals as goal

pub loop-draft-preserved : goal.loop-draft-preserved
loop-draft-preserved c =
    rw c.in_ok-push.ensures.ok (next_line c.args.bytes.now c.args.tokens.now c.args.names.now c.into_iter-draft-iterator.result.rest.items c.loop-draft.lines c.next.new.self.rest.items c.in-Some.draft c.in_ok-line.line (rw c.in-Some.ensures.steps.0 at c.loop-draft.invariant) c.in_ok-line.ensures.resolves)

pub returns-clause-resolve : goal.returns-clause-resolve
returns-clause-resolve c =
    rw (sym c.into_vec-draft-items.ensures, sym c.into_iter-draft-iterator.ensures.into_iter_gives.0) (all_lines c.args.bytes.now c.args.tokens.now c.args.names.now c.into_iter-draft-iterator.result.rest.items c.loop-draft.lines c.loop-draft.draft-iterator.rest.items (sym c.loop-draft.draft-iterator.rest.ok.0 ∙ c.in-None.ensures.steps.0) c.loop-draft.invariant)

pub returns-in_err-line-clause-lacks : goal.returns-in_err-line-clause-lacks
returns-in_err-line-clause-lacks c =
    let p = err_from_is_err_and c.from_residual.result c.from_residual.ensures.1 in
    rw (p.1, p.2, sym c.into_vec-draft-items.ensures, sym c.into_iter-draft-iterator.ensures.into_iter_gives.0) (lacks_in_line c.args.bytes.now c.args.tokens.now c.args.names.now c.into_iter-draft-iterator.result.rest.items c.loop-draft.lines c.next.new.self.rest.items c.in-Some.draft c.in_err-line.field-0.0 (rw c.in-Some.ensures.steps.0 at c.loop-draft.invariant) c.in_err-line.ensures.lacks)
