use Rattle.std.proofs.Common.{sym, ◌∙◌}
use Rattle.std.proofs.lemmas.Result.{err_from_is_err_and}
use Rattle.uc_clause.proofs.Tables.{grows_twice}
use Rattle.uc_tstp.proofs.LineParts.{same_sort, body_stops, source_stops, reads_contents}
use Rattle.uc_tstp.proofs.lines.contents_at.Goals as goal

pub returns-in_err-body-clause-stops : goal.returns-in_err-body-clause-stops
returns-in_err-body-clause-stops c =
    let p = err_from_is_err_and c.from_residual.result c.from_residual.ensures.1 in
    rw (p.1, p.2) (body_stops c.args.bytes.now c.args.tokens.now c.args.name c.args.first c.in_err-body.field-0.0 c.in_err-body.ensures.stops)

pub returns-in_err-source-clause-stops : goal.returns-in_err-source-clause-stops
returns-in_err-source-clause-stops c =
    let p = err_from_is_err_and c.from_residual-in_err-source.result c.from_residual-in_err-source.ensures.1 in
    rw (p.1, p.2) (source_stops c.args.bytes.now c.args.tokens.now c.args.name c.args.first c.in_ok-body.ensures.reads.body c.in_ok-body.at c.in_ok-body.ensures.reads.reads c.in_err-source.field-0.0 (c.in_err-source.ensures.stops c.in_ok-body.ensures.reads.body (same_sort c.args.bytes.now c.args.tokens.now c.body_at.new.symbols c.body_at.new.variables c.in_ok-body.ensures.reads.body c.in_ok-body.body c.in_ok-body.ensures.reads.says ∙ sym c.sort-sort.ensures)))

pub returns-clause-reads : goal.returns-clause-reads
returns-clause-reads c =
    reads_contents c.args.bytes.now c.args.tokens.now c.args.name c.args.first c.in_ok-body.at c.in_ok-source.end c.args.symbols.now c.body_at.new.symbols c.comma_source.new.symbols c.body_at.new.variables c.comma_source.new.variables c.in_ok-body.body c.in_ok-source.source c.in_ok-source.ensures.grows (rw c.new-variables.ensures at c.in_ok-body.ensures.reads) (c.in_ok-source.ensures.reads c.in_ok-body.ensures.reads.body (same_sort c.args.bytes.now c.args.tokens.now c.body_at.new.symbols c.body_at.new.variables c.in_ok-body.ensures.reads.body c.in_ok-body.body c.in_ok-body.ensures.reads.says ∙ sym c.sort-sort.ensures))

pub returns-in_err-source-clause-grows : goal.returns-in_err-source-clause-grows
returns-in_err-source-clause-grows c = grows_twice c.args.symbols.now c.body_at.new.symbols c.comma_source.new.symbols c.in_ok-body.ensures.grows c.in_err-source.ensures.grows

pub returns-clause-grows : goal.returns-clause-grows
returns-clause-grows c = grows_twice c.args.symbols.now c.body_at.new.symbols c.comma_source.new.symbols c.in_ok-body.ensures.grows c.in_ok-source.ensures.grows
