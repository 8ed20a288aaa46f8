use Rattle.std.proofs.lemmas.Result.{err_from_is_err_and}
use Rattle.uc_clause.proofs.Alone.{alone_equals_stops, alone_equals_more, alone_equals, alone_interns}
use Rattle.uc_clause.proofs.grammar.alone.equation_in.Goals as goal

pub returns-in_err-pair-clause-stops : goal.returns-in_err-pair-clause-stops
returns-in_err-pair-clause-stops c =
    let p = err_from_is_err_and c.from_residual.result c.from_residual.ensures.1 in
    rw (p.1, p.2) (alone_equals_stops c.args.bytes.now c.args.tokens.now c.in_err-pair.field-0.0 c.in_err-pair.ensures.stops)

pub returns-then-not-stands_at-clause-stops : goal.returns-then-not-stands_at-clause-stops
returns-then-not-stands_at-clause-stops c =
    alone_equals_more c.args.bytes.now c.args.tokens.now c.equals_at.new.variables c.equals_at.new.symbols c.in_ok-pair.pair (rw c.new-variables.ensures at c.in_ok-pair.ensures.reads) c.if-not-stands_at.ensures

pub returns-clause-reads : goal.returns-clause-reads
returns-clause-reads c =
    alone_equals c.args.bytes.now c.args.tokens.now c.equals_at.new.variables c.equals_at.new.symbols c.in_ok-pair.pair (rw c.new-variables.ensures at c.in_ok-pair.ensures.reads) c.if-not-stands_at.ensures

pub returns-clause-interns : goal.returns-clause-interns
returns-clause-interns c = (_, alone_interns c.args.bytes.now c.args.tokens.now c.args.symbols.now c.equals_at.new.symbols c.in_ok-pair.pair.end c.in_ok-pair.ensures.interns c.if-not-stands_at.ensures)
