use Rattle.std.proofs.Common.{subst}
use Rattle.std.specs.Prelude.{codes}
use Rattle.std.proofs.lemmas.Result.{err_from_is_err_and}
use Rattle.uc_clause.specs.declared.terminal.Terminal.TheVariants.{Open, Comma, OpenSquare}
use Rattle.uc_clause.specs.Rules.{read, stop, goes_on, stops_first}
use Rattle.uc_clause.proofs.Sequences.{passes, if_ok, if_err}
use Rattle.uc_clause.proofs.Tables.{grows_not}
use Rattle.uc_tstp.specs.Lines as lines
use Rattle.uc_tstp.proofs.sources.inference_source.Goals as goal

pub returns-in_err-at-clause-stops : goal.returns-in_err-at-clause-stops
returns-in_err-at-clause-stops c =
    let p = err_from_is_err_and c.from_residual.result c.from_residual.ensures.1 in
    rw (p.1, p.2) (λ b s. passes (lines.word c.args.bytes.now c.args.tokens.now (codes "inference") c.args.from) (lines.inference_source c.args.bytes.now c.args.tokens.now b c.args.first c.args.from) c.in_err-at.field-0.0 (λ why k h. stops_first h) c.in_err-at.ensures.stops)

pub returns-in_err-at-2-clause-stops : goal.returns-in_err-at-2-clause-stops
returns-in_err-at-2-clause-stops c =
    let p = err_from_is_err_and c.from_residual-in_err-at-2.result c.from_residual-in_err-at-2.ensures.1 in
    rw (p.1, p.2) (λ b s. passes (lines.token c.args.bytes.now c.args.tokens.now Open c.in_ok-at.at) (lines.inference_source c.args.bytes.now c.args.tokens.now b c.args.first c.args.from) c.in_err-at-2.field-0.0 (λ why k h. goes_on {v = tt} c.in_ok-at.ensures.ok (stops_first h)) c.in_err-at-2.ensures.stops)

pub returns-in_err-rule-clause-stops : goal.returns-in_err-rule-clause-stops
returns-in_err-rule-clause-stops c =
    let p = err_from_is_err_and c.from_residual-in_err-rule.result c.from_residual-in_err-rule.ensures.1 in
    rw (p.1, p.2) (λ b s. passes (lines.rule_word c.args.bytes.now c.args.tokens.now c.in_ok-at-2.at) (lines.inference_source c.args.bytes.now c.args.tokens.now b c.args.first c.args.from) c.in_err-rule.field-0.0 (λ why k h. goes_on {v = tt} c.in_ok-at.ensures.ok (goes_on {v = tt} c.in_ok-at-2.ensures.ok (stops_first h))) c.in_err-rule.ensures.stops)

pub returns-in_err-at-3-clause-stops : goal.returns-in_err-at-3-clause-stops
returns-in_err-at-3-clause-stops c =
    let p = err_from_is_err_and c.from_residual-in_err-at-3.result c.from_residual-in_err-at-3.ensures.1 in
    rw (p.1, p.2) (λ b s. passes (lines.body_fits c.fits_rule.result c.args.first c.in_ok-rule.at) (lines.inference_source c.args.bytes.now c.args.tokens.now b c.args.first c.args.from) c.in_err-at-3.field-0.0 (λ why k h. goes_on {v = tt} c.in_ok-at.ensures.ok (goes_on {v = tt} c.in_ok-at-2.ensures.ok (goes_on c.in_ok-rule.ensures.ok (stops_first (subst (λ f. lines.body_fits f c.args.first c.in_ok-rule.at (stop why k)) (c.fits_rule.ensures b s) h))))) c.in_err-at-3.ensures)

pub returns-in_err-at-4-clause-stops : goal.returns-in_err-at-4-clause-stops
returns-in_err-at-4-clause-stops c =
    let p = err_from_is_err_and c.from_residual-in_err-at-4.result c.from_residual-in_err-at-4.ensures.1 in
    rw (p.1, p.2) (λ b s. passes (lines.token c.args.bytes.now c.args.tokens.now Comma c.in_ok-at-3.at) (lines.inference_source c.args.bytes.now c.args.tokens.now b c.args.first c.args.from) c.in_err-at-4.field-0.0 (λ why k h. goes_on {v = tt} c.in_ok-at.ensures.ok (goes_on {v = tt} c.in_ok-at-2.ensures.ok (goes_on c.in_ok-rule.ensures.ok (goes_on {v = tt} {middle = c.in_ok-at-3.at} (subst (λ f. lines.body_fits f c.args.first c.in_ok-rule.at (read tt c.in_ok-at-3.at)) (c.fits_rule.ensures b s) c.in_ok-at-3.ensures) (stops_first h))))) c.in_err-at-4.ensures.stops)

pub returns-in_err-at-5-clause-stops : goal.returns-in_err-at-5-clause-stops
returns-in_err-at-5-clause-stops c =
    let p = err_from_is_err_and c.from_residual-in_err-at-5.result c.from_residual-in_err-at-5.ensures.1 in
    rw (p.1, p.2) (λ b s. passes (lines.token c.args.bytes.now c.args.tokens.now OpenSquare c.in_ok-at-4.at) (lines.inference_source c.args.bytes.now c.args.tokens.now b c.args.first c.args.from) c.in_err-at-5.field-0.0 (λ why k h. goes_on {v = tt} c.in_ok-at.ensures.ok (goes_on {v = tt} c.in_ok-at-2.ensures.ok (goes_on c.in_ok-rule.ensures.ok (goes_on {v = tt} {middle = c.in_ok-at-3.at} (subst (λ f. lines.body_fits f c.args.first c.in_ok-rule.at (read tt c.in_ok-at-3.at)) (c.fits_rule.ensures b s) c.in_ok-at-3.ensures) (goes_on {v = tt} c.in_ok-at-4.ensures.ok (stops_first h)))))) c.in_err-at-5.ensures.stops)

pub returns-clause-reads : goal.returns-clause-reads
returns-clause-reads c =
    if_ok c.source_of_rule.result (λ r m b s. record { source = m.source; reads = goes_on {v = tt} c.in_ok-at.ensures.ok (goes_on {v = tt} c.in_ok-at-2.ensures.ok (goes_on c.in_ok-rule.ensures.ok (goes_on {v = tt} {middle = c.in_ok-at-3.at} (subst (λ f. lines.body_fits f c.args.first c.in_ok-rule.at (read tt c.in_ok-at-3.at)) (c.fits_rule.ensures b s) c.in_ok-at-3.ensures) (goes_on {v = tt} c.in_ok-at-4.ensures.ok (goes_on {v = tt} c.in_ok-at-5.ensures.ok (m.reads)))))); seen_is = m.seen_is; says = m.says; table_is = m.table_is }) c.source_of_rule.ensures.reads

pub returns-clause-stops : goal.returns-clause-stops
returns-clause-stops c =
    if_err c.source_of_rule.result (λ e h b s. passes (lines.source_of_rule c.args.bytes.now c.args.tokens.now c.in_ok-rule.rule c.in_ok-at-5.at) (lines.inference_source c.args.bytes.now c.args.tokens.now b c.args.first c.args.from) e (λ why k h. goes_on {v = tt} c.in_ok-at.ensures.ok (goes_on {v = tt} c.in_ok-at-2.ensures.ok (goes_on c.in_ok-rule.ensures.ok (goes_on {v = tt} {middle = c.in_ok-at-3.at} (subst (λ f. lines.body_fits f c.args.first c.in_ok-rule.at (read tt c.in_ok-at-3.at)) (c.fits_rule.ensures b s) c.in_ok-at-3.ensures) (goes_on {v = tt} c.in_ok-at-4.ensures.ok (goes_on {v = tt} c.in_ok-at-5.ensures.ok (h))))))) h) c.source_of_rule.ensures.stops

pub returns-in_err-at-clause-grows : goal.returns-in_err-at-clause-grows
returns-in_err-at-clause-grows c = grows_not c.args.symbols.now

pub returns-in_err-at-2-clause-grows : goal.returns-in_err-at-2-clause-grows
returns-in_err-at-2-clause-grows c = grows_not c.args.symbols.now

pub returns-in_err-rule-clause-grows : goal.returns-in_err-rule-clause-grows
returns-in_err-rule-clause-grows c = grows_not c.args.symbols.now

pub returns-in_err-at-3-clause-grows : goal.returns-in_err-at-3-clause-grows
returns-in_err-at-3-clause-grows c = grows_not c.args.symbols.now

pub returns-in_err-at-4-clause-grows : goal.returns-in_err-at-4-clause-grows
returns-in_err-at-4-clause-grows c = grows_not c.args.symbols.now

pub returns-in_err-at-5-clause-grows : goal.returns-in_err-at-5-clause-grows
returns-in_err-at-5-clause-grows c = grows_not c.args.symbols.now
