use Rattle.std.proofs.lemmas.Result.{err_from_is_err_and}
use Rattle.uc_fof.proofs.Openings.{literal_stops, closing_stops, has_literal}
use Rattle.uc_fof.proofs.formulas.formula_at.Goals as goal

pub returns-in_err-at-clause-stops : goal.returns-in_err-at-clause-stops
returns-in_err-at-clause-stops c =
    let p = err_from_is_err_and c.from_residual-in_err-at.result c.from_residual-in_err-at.ensures.1 in
    rw (p.1, p.2) (literal_stops c.args.bytes.now c.args.tokens.now c.args.conjecture c.args.from c.in_ok-opened.opened.brackets c.in_ok-opened.opened.bound c.in_ok-opened.opened.at c.in_ok-opened.ensures.opened c.in_err-at.field-0.0 c.in_err-at.ensures)

pub returns-in_err-end-clause-stops : goal.returns-in_err-end-clause-stops
returns-in_err-end-clause-stops c =
    let p = err_from_is_err_and c.from_residual-in_err-end.result c.from_residual-in_err-end.ensures.1 in
    rw (p.1, p.2) (closing_stops c.args.bytes.now c.args.tokens.now c.args.conjecture c.args.from c.in_ok-opened.opened.brackets c.in_ok-opened.opened.bound c.in_ok-opened.opened.at c.in_ok-opened.ensures.opened c.in_ok-at.at c.in_ok-at.ensures c.in_err-end.field-0.0 c.in_err-end.ensures)

pub returns-clause-reads : goal.returns-clause-reads
returns-clause-reads c = has_literal c.args.bytes.now c.args.tokens.now c.args.conjecture c.args.from c.in_ok-opened.opened.brackets c.in_ok-opened.opened.bound c.in_ok-opened.opened.at c.in_ok-opened.ensures.opened c.in_ok-at.at c.in_ok-end.end c.in_ok-at.ensures c.in_ok-end.ensures
