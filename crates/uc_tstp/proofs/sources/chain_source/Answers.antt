use Rattle.std.proofs.lemmas.Result.{err_from_is_err_and}
use Rattle.uc_clause.proofs.Tables.{grows_twice}
use Rattle.uc_tstp.proofs.SourceReading.{start_stops, steps_stop, rest_stops, chain_reads}
use Rattle.uc_tstp.proofs.sources.chain_source.Goals as goal

pub returns-in_err-start-clause-stops : goal.returns-in_err-start-clause-stops
returns-in_err-start-clause-stops c =
    let p = err_from_is_err_and c.from_residual.result c.from_residual.ensures.1 in
    rw (p.1, p.2) (start_stops c.args.bytes.now c.args.tokens.now c.args.from c.in_err-start.field-0.0 c.in_err-start.ensures.stops)

pub returns-in_err-steps-clause-stops : goal.returns-in_err-steps-clause-stops
returns-in_err-steps-clause-stops c =
    let p = err_from_is_err_and c.from_residual-in_err-steps.result c.from_residual-in_err-steps.ensures.1 in
    rw (p.1, p.2) (steps_stop c.args.bytes.now c.args.tokens.now c.args.from c.in_ok-start.at c.args.variables.now c.term_at.new.variables c.term_at.new.symbols c.in_ok-start.start c.in_ok-start.ensures.reads c.in_err-steps.field-0.0 c.in_err-steps.ensures.stops)

pub returns-in_err-parents-clause-stops : goal.returns-in_err-parents-clause-stops
returns-in_err-parents-clause-stops c =
    let p = err_from_is_err_and c.from_residual-in_err-parents.result c.from_residual-in_err-parents.ensures.1 in
    rw (p.1, p.2) (rest_stops c.args.bytes.now c.args.tokens.now c.args.from c.in_ok-start.at c.args.variables.now c.term_at.new.variables c.term_at.new.symbols c.in_ok-start.start c.in_ok-start.ensures.reads c.in_ok-steps.at c.steps.new.variables c.steps.new.symbols c.in_ok-steps.steps c.in_ok-steps.ensures.reads c.in_err-parents.field-0.0 c.in_err-parents.ensures.stops)

pub returns-clause-reads : goal.returns-clause-reads
returns-clause-reads c =
    chain_reads c.args.bytes.now c.args.tokens.now c.args.from c.in_ok-start.at c.args.variables.now c.term_at.new.variables c.term_at.new.symbols c.in_ok-start.start c.in_ok-start.ensures.reads c.in_ok-steps.at c.steps.new.variables c.steps.new.symbols c.in_ok-steps.steps c.in_ok-steps.ensures.reads c.in_ok-parents.end c.in_ok-parents.parents c.args.symbols.now c.in_ok-start.ensures.interns c.in_ok-steps.ensures.grows c.in_ok-parents.ensures.reads

pub returns-in_err-steps-clause-grows : goal.returns-in_err-steps-clause-grows
returns-in_err-steps-clause-grows c = grows_twice c.args.symbols.now c.term_at.new.symbols c.steps.new.symbols c.in_ok-start.ensures.grows c.in_err-steps.ensures.grows

pub returns-in_err-parents-clause-grows : goal.returns-in_err-parents-clause-grows
returns-in_err-parents-clause-grows c = grows_twice c.args.symbols.now c.term_at.new.symbols c.steps.new.symbols c.in_ok-start.ensures.grows c.in_ok-steps.ensures.grows

pub returns-clause-grows : goal.returns-clause-grows
returns-clause-grows c = grows_twice c.args.symbols.now c.term_at.new.symbols c.steps.new.symbols c.in_ok-start.ensures.grows c.in_ok-steps.ensures.grows
