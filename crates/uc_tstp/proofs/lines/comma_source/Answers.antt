use Rattle.std.proofs.lemmas.Result.{err_from_is_err_and}
use Rattle.uc_clause.specs.declared.terminal.Terminal.TheVariants.{Comma}
use Rattle.uc_clause.specs.Rules.{goes_on, stops_first}
use Rattle.uc_clause.proofs.Sequences.{passes, if_ok, if_err}
use Rattle.uc_clause.proofs.Tables.{grows_not}
use Rattle.uc_tstp.specs.Lines.{token, source}
use Rattle.uc_tstp.specs.Parts.{comma_source}
use Rattle.uc_tstp.proofs.lines.comma_source.Goals as goal

pub returns-in_err-at-clause-stops : goal.returns-in_err-at-clause-stops
returns-in_err-at-clause-stops c =
    let p = err_from_is_err_and c.from_residual.result c.from_residual.ensures.1 in
    rw (p.1, p.2) (λ b same. passes (token c.args.bytes.now c.args.tokens.now Comma c.args.from) (comma_source c.args.bytes.now c.args.tokens.now b c.args.first c.args.from) c.in_err-at.field-0.0 (λ why k s. stops_first s) c.in_err-at.ensures.stops)

pub returns-clause-reads : goal.returns-clause-reads
returns-clause-reads c = if_ok c.source_at.result (λ r reads b same. let s = reads b same in record { source = s.source; reads = goes_on {v = tt} c.in_ok-at.ensures.ok s.reads; seen_is = s.seen_is; table_is = s.table_is; says = s.says }) c.source_at.ensures.reads

pub returns-clause-stops : goal.returns-clause-stops
returns-clause-stops c = if_err c.source_at.result (λ e stops b same. passes (source c.args.bytes.now c.args.tokens.now b c.args.first c.in_ok-at.at) (comma_source c.args.bytes.now c.args.tokens.now b c.args.first c.args.from) e (λ why k s. goes_on {v = tt} c.in_ok-at.ensures.ok s) (stops b same)) c.source_at.ensures.stops

pub returns-in_err-at-clause-grows : goal.returns-in_err-at-clause-grows
returns-in_err-at-clause-grows c = grows_not c.args.symbols.now
