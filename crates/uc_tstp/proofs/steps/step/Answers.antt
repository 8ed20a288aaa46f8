use Rattle.std.proofs.lemmas.Result.{err_from_is_err_and}
use Rattle.uc_clause.proofs.Tables.{grows_not}
use Rattle.uc_tstp.proofs.StepReading.{head_stops, to_stops, close_stops, step_reads}
use Rattle.uc_tstp.proofs.steps.step.Goals as goal

pub returns-in_err-head-clause-stops : goal.returns-in_err-head-clause-stops
returns-in_err-head-clause-stops c =
    let p = err_from_is_err_and c.from_residual.result c.from_residual.ensures.1 in
    rw (p.1, p.2) (head_stops c.args.bytes.now c.args.tokens.now c.args.from c.in_err-head.field-0.0 c.in_err-head.ensures.stops)

pub returns-in_err-to-clause-stops : goal.returns-in_err-to-clause-stops
returns-in_err-to-clause-stops c =
    let p = err_from_is_err_and c.from_residual-in_err-to.result c.from_residual-in_err-to.ensures.1 in
    rw (p.1, p.2) (to_stops c.args.bytes.now c.args.tokens.now c.args.from c.in_ok-head.head.by c.in_ok-head.head.left_to_right c.in_ok-head.head.path c.in_ok-head.at c.in_ok-head.ensures.reads c.in_err-to.field-0.0 c.in_err-to.ensures.stops)

pub returns-in_err-end-clause-stops : goal.returns-in_err-end-clause-stops
returns-in_err-end-clause-stops c =
    let p = err_from_is_err_and c.from_residual-in_err-end.result c.from_residual-in_err-end.ensures.1 in
    rw (p.1, p.2) (close_stops c.args.bytes.now c.args.tokens.now c.args.from c.in_ok-head.head.by c.in_ok-head.head.left_to_right c.in_ok-head.head.path c.in_ok-head.at c.in_ok-head.ensures.reads c.args.variables.now c.term_at.new.variables c.term_at.new.symbols c.in_ok-to.to c.in_ok-to.at c.in_ok-to.ensures.reads c.in_err-end.field-0.0 c.in_err-end.ensures.stops)

pub returns-clause-reads : goal.returns-clause-reads
returns-clause-reads c =
    step_reads c.args.bytes.now c.args.tokens.now c.args.from c.in_ok-head.head.by c.in_ok-head.head.left_to_right c.in_ok-head.head.path c.in_ok-head.at c.in_ok-head.ensures.reads c.args.variables.now c.term_at.new.variables c.term_at.new.symbols c.in_ok-to.to c.in_ok-to.at c.in_ok-to.ensures.reads c.in_ok-end.end c.args.symbols.now c.in_ok-to.ensures.interns c.in_ok-end.ensures.ok

pub returns-in_err-head-clause-grows : goal.returns-in_err-head-clause-grows
returns-in_err-head-clause-grows c = grows_not c.args.symbols.now
