use Rattle.std.proofs.Common.{refl, subst}
use Rattle.std.specs.Prelude.{codes}
use Rattle.std.proofs.lemmas.Result.{err_from_is_err_and}
use Rattle.uc_clause.specs.declared.terminal.Terminal.TheVariants.{Open, Close, Comma}
use Rattle.uc_clause.specs.Rules.{read, stop, goes_on, stops_first}
use Rattle.uc_clause.specs.Items as items
use Rattle.uc_clause.proofs.Sequences.{passes}
use Rattle.uc_tstp.specs.Lines as lines
use Rattle.uc_tstp.proofs.SourceReading.{name_within}
use Rattle.uc_tstp.proofs.sources.file_source.Goals as goal

pub returns-in_err-at-clause-stops : goal.returns-in_err-at-clause-stops
returns-in_err-at-clause-stops c =
    let p = err_from_is_err_and c.from_residual.result c.from_residual.ensures.1 in
    rw (p.1, p.2) (λ b s. passes (lines.word c.args.bytes.now c.args.tokens.now (codes "file") c.args.from) (lines.file_source c.args.bytes.now c.args.tokens.now b c.args.first c.args.from) c.in_err-at.field-0.0 (λ why k h. stops_first h) c.in_err-at.ensures.stops)

pub returns-in_err-at-2-clause-stops : goal.returns-in_err-at-2-clause-stops
returns-in_err-at-2-clause-stops c =
    let p = err_from_is_err_and c.from_residual-in_err-at-2.result c.from_residual-in_err-at-2.ensures.1 in
    rw (p.1, p.2) (λ b s. passes (lines.body_fits c.fits_file.result c.args.first c.in_ok-at.at) (lines.file_source c.args.bytes.now c.args.tokens.now b c.args.first c.args.from) c.in_err-at-2.field-0.0 (λ why k h. goes_on {v = tt} c.in_ok-at.ensures.ok (stops_first (subst (λ f. lines.body_fits f c.args.first c.in_ok-at.at (stop why k)) (c.fits_file.ensures b s) h))) c.in_err-at-2.ensures)

pub returns-in_err-at-3-clause-stops : goal.returns-in_err-at-3-clause-stops
returns-in_err-at-3-clause-stops c =
    let p = err_from_is_err_and c.from_residual-in_err-at-3.result c.from_residual-in_err-at-3.ensures.1 in
    rw (p.1, p.2) (λ b s. passes (lines.token c.args.bytes.now c.args.tokens.now Open c.in_ok-at-2.at) (lines.file_source c.args.bytes.now c.args.tokens.now b c.args.first c.args.from) c.in_err-at-3.field-0.0 (λ why k h. goes_on {v = tt} c.in_ok-at.ensures.ok (goes_on {v = tt} {middle = c.in_ok-at-2.at} (subst (λ f. lines.body_fits f c.args.first c.in_ok-at.at (read tt c.in_ok-at-2.at)) (c.fits_file.ensures b s) c.in_ok-at-2.ensures) (stops_first h))) c.in_err-at-3.ensures.stops)

pub returns-in_err-at-4-clause-stops : goal.returns-in_err-at-4-clause-stops
returns-in_err-at-4-clause-stops c =
    let p = err_from_is_err_and c.from_residual-in_err-at-4.result c.from_residual-in_err-at-4.ensures.1 in
    rw (p.1, p.2) (λ b s. passes (lines.functor c.args.bytes.now c.args.tokens.now c.in_ok-at-3.at) (lines.file_source c.args.bytes.now c.args.tokens.now b c.args.first c.args.from) c.in_err-at-4.field-0.0 (λ why k h. goes_on {v = tt} c.in_ok-at.ensures.ok (goes_on {v = tt} {middle = c.in_ok-at-2.at} (subst (λ f. lines.body_fits f c.args.first c.in_ok-at.at (read tt c.in_ok-at-2.at)) (c.fits_file.ensures b s) c.in_ok-at-2.ensures) (goes_on {v = tt} c.in_ok-at-3.ensures.ok (stops_first h)))) c.in_err-at-4.ensures.stops)

pub returns-in_err-at-5-clause-stops : goal.returns-in_err-at-5-clause-stops
returns-in_err-at-5-clause-stops c =
    let p = err_from_is_err_and c.from_residual-in_err-at-5.result c.from_residual-in_err-at-5.ensures.1 in
    rw (p.1, p.2) (λ b s. passes (lines.token c.args.bytes.now c.args.tokens.now Comma c.in_ok-at-4.at) (lines.file_source c.args.bytes.now c.args.tokens.now b c.args.first c.args.from) c.in_err-at-5.field-0.0 (λ why k h. goes_on {v = tt} c.in_ok-at.ensures.ok (goes_on {v = tt} {middle = c.in_ok-at-2.at} (subst (λ f. lines.body_fits f c.args.first c.in_ok-at.at (read tt c.in_ok-at-2.at)) (c.fits_file.ensures b s) c.in_ok-at-2.ensures) (goes_on {v = tt} c.in_ok-at-3.ensures.ok (goes_on c.in_ok-at-4.ensures.ok (stops_first h))))) c.in_err-at-5.ensures.stops)

pub returns-in_err-name-clause-stops : goal.returns-in_err-name-clause-stops
returns-in_err-name-clause-stops c =
    let p = err_from_is_err_and c.from_residual-in_err-name.result c.from_residual-in_err-name.ensures.1 in
    rw (p.1, p.2) (λ b s. passes (items.name c.args.bytes.now c.args.tokens.now c.in_ok-at-5.at) (lines.file_source c.args.bytes.now c.args.tokens.now b c.args.first c.args.from) c.in_err-name.field-0.0 (λ why k h. goes_on {v = tt} c.in_ok-at.ensures.ok (goes_on {v = tt} {middle = c.in_ok-at-2.at} (subst (λ f. lines.body_fits f c.args.first c.in_ok-at.at (read tt c.in_ok-at-2.at)) (c.fits_file.ensures b s) c.in_ok-at-2.ensures) (goes_on {v = tt} c.in_ok-at-3.ensures.ok (goes_on c.in_ok-at-4.ensures.ok (goes_on {v = tt} c.in_ok-at-5.ensures.ok (stops_first h)))))) c.in_err-name.ensures.stops)

pub returns-in_err-end-clause-stops : goal.returns-in_err-end-clause-stops
returns-in_err-end-clause-stops c =
    let p = err_from_is_err_and c.from_residual-in_err-end.result c.from_residual-in_err-end.ensures.1 in
    rw (p.1, p.2) (λ b s. passes (lines.token c.args.bytes.now c.args.tokens.now Close c.in_ok-name.at) (lines.file_source c.args.bytes.now c.args.tokens.now b c.args.first c.args.from) c.in_err-end.field-0.0 (λ why k h. goes_on {v = tt} c.in_ok-at.ensures.ok (goes_on {v = tt} {middle = c.in_ok-at-2.at} (subst (λ f. lines.body_fits f c.args.first c.in_ok-at.at (read tt c.in_ok-at-2.at)) (c.fits_file.ensures b s) c.in_ok-at-2.ensures) (goes_on {v = tt} c.in_ok-at-3.ensures.ok (goes_on c.in_ok-at-4.ensures.ok (goes_on {v = tt} c.in_ok-at-5.ensures.ok (goes_on c.in_ok-name.ensures.ok (stops_first h))))))) c.in_err-end.ensures.stops)

pub returns-clause-reads : goal.returns-clause-reads
returns-clause-reads c = λ b s. goes_on {v = tt} c.in_ok-at.ensures.ok (goes_on {v = tt} {middle = c.in_ok-at-2.at} (subst (λ f. lines.body_fits f c.args.first c.in_ok-at.at (read tt c.in_ok-at-2.at)) (c.fits_file.ensures b s) c.in_ok-at-2.ensures) (goes_on {v = tt} c.in_ok-at-3.ensures.ok (goes_on c.in_ok-at-4.ensures.ok (goes_on {v = tt} c.in_ok-at-5.ensures.ok (goes_on c.in_ok-name.ensures.ok (goes_on {v = tt} c.in_ok-end.ensures.ok (refl)))))))

pub returns-clause-within : goal.returns-clause-within
returns-clause-within c = name_within c.args.bytes.now c.args.tokens.now c.in_ok-at-5.at c.in_ok-name.name c.in_ok-name.at c.in_ok-name.ensures.ok
