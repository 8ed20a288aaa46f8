use Rattle.std.proofs.lemmas.Result.{err_from_is_err_and}
use Rattle.uc_fof.proofs.NoteParts.{more_comma_stops, more_second}
use Rattle.uc_fof.proofs.notes.more_notes_at.Goals as goal

pub returns-in_err-end : goal.returns-in_err-end
returns-in_err-end c =
    let p = err_from_is_err_and c.from_residual.result c.from_residual.ensures.1 in
    rw (p.1, p.2) (more_comma_stops c.args.bytes.now c.args.tokens.now c.args.from c.if-not-stands_at.ensures c.in_err-end.field-0.0 c.in_err-end.ensures)

pub returns : goal.returns
returns c = more_second c.args.bytes.now c.args.tokens.now c.args.from c.if-not-stands_at.ensures c.in_ok-end.end c.in_ok-end.ensures c.expect-2.result c.expect-2.ensures
