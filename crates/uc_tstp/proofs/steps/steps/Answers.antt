use Rattle.std.proofs.Common.{arith}
use Rattle.std.proofs.lemmas.Result.{err_from_is_err_and}
use Rattle.uc_clause.specs.declared.terminal.Terminal.TheVariants.{CloseSquare}
use Rattle.uc_clause.proofs.Ends.{some_other}
use Rattle.uc_clause.proofs.Sequences.{if_ok, if_err}
use Rattle.uc_clause.proofs.Tables.{grows_not}
use Rattle.uc_tstp.proofs.StepReading.{steps_none, comma_stops, members_stop, members_read}
use Rattle.uc_tstp.proofs.steps.steps.Goals as goal

pub returns-in_err-at-clause-stops : goal.returns-in_err-at-clause-stops
returns-in_err-at-clause-stops c =
    let p = err_from_is_err_and c.from_residual.result c.from_residual.ensures.1 in
    rw (p.1, p.2) (comma_stops c.args.bytes.now c.args.tokens.now c.args.from c.if-stands_at.ensures c.in_err-at.field-0.0 c.in_err-at.ensures.stops)

pub overflow_add-result : goal.overflow_add-result
overflow_add-result c = omega (arith, some_other c.args.bytes.now c.args.tokens.now c.args.from CloseSquare c.if-stands_at.ensures (λ e. cc))

pub returns-then-stands_at-clause-reads : goal.returns-then-stands_at-clause-reads
returns-then-stands_at-clause-reads c =
    rw c.new.ensures (steps_none c.args.bytes.now c.args.tokens.now c.args.from c.args.variables.now c.args.symbols.now c.if-stands_at.ensures)

pub returns-clause-reads : goal.returns-clause-reads
returns-clause-reads c =
    if_ok c.more_steps.result (λ r m. members_read c.args.bytes.now c.args.tokens.now c.args.from c.if-stands_at.ensures c.in_ok-at.at c.in_ok-at.ensures.ok r.1 c.args.variables.now c.more_steps.new.variables c.args.symbols.now c.more_steps.new.symbols r.0 m) c.more_steps.ensures.reads

pub returns-clause-stops : goal.returns-clause-stops
returns-clause-stops c =
    if_err c.more_steps.result (λ e s. members_stop c.args.bytes.now c.args.tokens.now c.args.from c.if-stands_at.ensures c.in_ok-at.at c.in_ok-at.ensures.ok e s) c.more_steps.ensures.stops

pub returns-then-stands_at-clause-grows : goal.returns-then-stands_at-clause-grows
returns-then-stands_at-clause-grows c = grows_not c.args.symbols.now

pub returns-in_err-at-clause-grows : goal.returns-in_err-at-clause-grows
returns-in_err-at-clause-grows c = grows_not c.args.symbols.now
