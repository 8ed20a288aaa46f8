use Rattle.std.proofs.lemmas.Result.{err_from_is_err_and}
use Rattle.uc_clause.proofs.TermsOnce.{part_is_read, stopped_refuses, stopped_complete, read_refuses, read_complete}
use Rattle.uc_clause.proofs.grammar.term.term_at.Goals as goal

pub returns-in_err-part-clause-complete : goal.returns-in_err-part-clause-complete
returns-in_err-part-clause-complete c =
    let p = err_from_is_err_and c.from_residual.result c.from_residual.ensures.1 in
    rw (p.1, p.2) (stopped_complete c.args.bytes.now c.args.tokens.now c.args.from c.args.variables.now c.part_at-found.new.variables c.part_at-found.new.symbols c.in_err-part.field-0.0 c.in_err-part.ensures.stops)

pub returns-in_err-part-clause-refuses : goal.returns-in_err-part-clause-refuses
returns-in_err-part-clause-refuses c =
    let p = err_from_is_err_and c.from_residual.result c.from_residual.ensures.1 in
    rw (p.1, p.2) (stopped_refuses c.args.bytes.now c.args.tokens.now c.args.from c.in_err-part.field-0.0 c.in_err-part.ensures.stops)

pub returns-clause-complete : goal.returns-clause-complete
returns-clause-complete c =
    let part = part_is_read c.args.bytes.now c.args.tokens.now c.args.from c.args.variables.now c.part_at-found.new.variables c.part_at-found.new.symbols c.in_ok-part.part c.in_ok-part.ensures.reads in
    read_complete c.args.bytes.now c.args.tokens.now c.args.from c.args.variables.now c.part_at-found.new.variables c.part_at-found.new.symbols c.len.ensures.distinct c.len-2.ensures.distinct c.in_ok-part.part.term c.in_ok-part.part.end part

pub returns-clause-refuses : goal.returns-clause-refuses
returns-clause-refuses c =
    let part = part_is_read c.args.bytes.now c.args.tokens.now c.args.from c.args.variables.now c.part_at-found.new.variables c.part_at-found.new.symbols c.in_ok-part.part c.in_ok-part.ensures.reads in
    read_refuses c.args.bytes.now c.args.tokens.now c.args.from c.args.variables.now c.part_at-found.new.variables c.part_at-found.new.symbols c.in_ok-part.part.term c.in_ok-part.part.end part
