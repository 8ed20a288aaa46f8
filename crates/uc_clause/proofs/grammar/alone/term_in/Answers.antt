use Rattle.std.proofs.lemmas.Result.{err_from_is_err_and}
use Rattle.uc_clause.proofs.Alone.{alone_term_stops, alone_term_more, alone_term, alone_term_interns}
use Rattle.uc_clause.proofs.grammar.alone.term_in.Goals as goal

pub returns-in_err-part-clause-stops : goal.returns-in_err-part-clause-stops
returns-in_err-part-clause-stops c =
    let p = err_from_is_err_and c.from_residual.result c.from_residual.ensures.1 in
    rw (p.1, p.2) (alone_term_stops c.args.bytes.now c.args.tokens.now c.in_err-part.field-0.0 c.in_err-part.ensures.stops)

pub returns-then-not-stands_at-clause-stops : goal.returns-then-not-stands_at-clause-stops
returns-then-not-stands_at-clause-stops c =
    alone_term_more c.args.bytes.now c.args.tokens.now c.part_at.new.variables c.part_at.new.symbols c.in_ok-part.part (rw c.new-variables.ensures at c.in_ok-part.ensures.reads) c.if-not-stands_at.ensures

pub returns-clause-reads : goal.returns-clause-reads
returns-clause-reads c =
    alone_term c.args.bytes.now c.args.tokens.now c.part_at.new.variables c.part_at.new.symbols c.in_ok-part.part (rw c.new-variables.ensures at c.in_ok-part.ensures.reads) c.if-not-stands_at.ensures

pub returns-clause-interns : goal.returns-clause-interns
returns-clause-interns c = (_, alone_term_interns c.args.bytes.now c.args.tokens.now c.args.symbols.now c.part_at.new.symbols c.in_ok-part.part.end c.in_ok-part.ensures.interns c.if-not-stands_at.ensures)
