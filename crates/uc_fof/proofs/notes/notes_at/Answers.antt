use Rattle.std.proofs.lemmas.Result.{err_from_is_err_and}
use Rattle.uc_fof.proofs.NoteParts.{notes_comma_stops, notes_first}
use Rattle.uc_fof.proofs.notes.notes_at.Goals as goal

pub returns-in_err-end : goal.returns-in_err-end
returns-in_err-end c =
    let p = err_from_is_err_and c.from_residual.result c.from_residual.ensures.1 in
    rw (p.1, p.2) (notes_comma_stops c.args.bytes.now c.args.tokens.now c.args.from c.args.conjecture c.if-not-stands_at.ensures c.in_err-end.field-0.0 c.in_err-end.ensures)

pub returns : goal.returns
returns c = notes_first c.args.bytes.now c.args.tokens.now c.args.from c.args.conjecture c.if-not-stands_at.ensures c.in_ok-end.end c.in_ok-end.ensures c.more_notes_at.result c.more_notes_at.ensures
