use Rattle.std.proofs.lemmas.Result.{err_from_is_err_and}
use Rattle.uc_clause.proofs.Literals.{denial_stops, denial_reads, denial_interns}
use Rattle.uc_clause.proofs.grammar.literal.equation_or_denial_at.Goals as goal

pub returns-in_err-pair-clause-stops : goal.returns-in_err-pair-clause-stops
returns-in_err-pair-clause-stops c =
    let p = err_from_is_err_and c.from_residual.result c.from_residual.ensures.1 in
    rw (p.1, p.2) (denial_stops c.args.bytes.now c.args.tokens.now c.args.from c.if-stands_at.ensures c.in_err-pair.field-0.0 c.in_err-pair.ensures.stops)

pub returns-in_ok-pair-clause-reads : goal.returns-in_ok-pair-clause-reads
returns-in_ok-pair-clause-reads c =
    denial_reads c.args.bytes.now c.args.tokens.now c.args.from c.if-stands_at.ensures c.args.variables.now c.denied_at.new.variables c.denied_at.new.symbols c.in_ok-pair.pair c.in_ok-pair.ensures.reads

pub returns-in_ok-pair-clause-interns : goal.returns-in_ok-pair-clause-interns
returns-in_ok-pair-clause-interns c =
    denial_interns c.args.bytes.now c.args.tokens.now c.args.from c.args.symbols.now c.denied_at.new.symbols c.in_ok-pair.pair.end c.if-stands_at.ensures c.in_ok-pair.ensures.interns
