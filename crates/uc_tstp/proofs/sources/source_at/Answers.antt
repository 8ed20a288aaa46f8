use Rattle.std.proofs.Common.{sym}
use Rattle.std.proofs.lemmas.Result.{err_from_is_err_and}
use Rattle.uc_clause.proofs.Sequences.{if_ok, if_err}
use Rattle.uc_clause.proofs.Tables.{grows_not}
use Rattle.uc_tstp.proofs.SourceReading.{inference_reads, inference_stops, file_stops, file_reads}
use Rattle.uc_tstp.proofs.sources.source_at.Goals as goal

pub returns-then-not-is_word-clause-reads : goal.returns-then-not-is_word-clause-reads
returns-then-not-is_word-clause-reads c =
    if_ok c.inference_source.result (λ r m b s. inference_reads c.args.bytes.now c.args.tokens.now c.args.from b c.args.first (sym c.if-not-is_word.ensures) r.1 c.args.variables.now c.inference_source.new.variables c.args.symbols.now c.inference_source.new.symbols r.0 (m b s)) c.inference_source.ensures.reads

pub returns-then-not-is_word-clause-stops : goal.returns-then-not-is_word-clause-stops
returns-then-not-is_word-clause-stops c =
    if_err c.inference_source.result (λ e h b s. inference_stops c.args.bytes.now c.args.tokens.now c.args.from b c.args.first (sym c.if-not-is_word.ensures) e (h b s)) c.inference_source.ensures.stops

pub returns-in_err-name-clause-stops : goal.returns-in_err-name-clause-stops
returns-in_err-name-clause-stops c =
    let p = err_from_is_err_and c.from_residual.result c.from_residual.ensures.1 in
    rw (p.1, p.2) (λ b s. file_stops c.args.bytes.now c.args.tokens.now c.args.from b c.args.first (sym c.if-not-is_word.ensures) c.in_err-name.field-0.0 (c.in_err-name.ensures.stops b s))

pub returns-clause-reads : goal.returns-clause-reads
returns-clause-reads c = λ b s. file_reads c.args.bytes.now c.args.tokens.now c.args.from b c.args.first (sym c.if-not-is_word.ensures) c.in_ok-name.end c.in_ok-name.name c.args.variables.now c.args.symbols.now c.in_ok-name-2.name (c.in_ok-name.ensures.reads b s) c.in_ok-name-2.ensures

pub returns-in_err-name-clause-grows : goal.returns-in_err-name-clause-grows
returns-in_err-name-clause-grows c = grows_not c.args.symbols.now

pub returns-in_err-name-2-clause-grows : goal.returns-in_err-name-2-clause-grows
returns-in_err-name-2-clause-grows c = grows_not c.args.symbols.now

pub returns-clause-grows : goal.returns-clause-grows
returns-clause-grows c = grows_not c.args.symbols.now
