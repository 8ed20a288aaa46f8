use Rattle.std.proofs.Common.{sym}
use Rattle.std.proofs.lemmas.Result.{err_from_is_err_and}
use Rattle.uc_clause.proofs.Tables.{grows_not, grows_twice}
use Rattle.uc_tstp.proofs.BodyReading.{false_reads, left_stops, sign_stops, right_stops, sides_read}
use Rattle.uc_tstp.proofs.bodies.body_at.Goals as goal

pub returns-then-is_falsum-clause-reads : goal.returns-then-is_falsum-clause-reads
returns-then-is_falsum-clause-reads c = false_reads c.args.bytes.now c.args.tokens.now c.args.from c.args.variables.now c.args.symbols.now (sym c.if-is_falsum.ensures)

pub returns-in_err-left-clause-stops : goal.returns-in_err-left-clause-stops
returns-in_err-left-clause-stops c =
    let p = err_from_is_err_and c.from_residual.result c.from_residual.ensures.1 in
    rw (p.1, p.2) (left_stops c.args.bytes.now c.args.tokens.now c.args.from (sym c.if-is_falsum.ensures) c.in_err-left.field-0.0 c.in_err-left.ensures.stops)

pub returns-in_err-positive-clause-stops : goal.returns-in_err-positive-clause-stops
returns-in_err-positive-clause-stops c =
    let p = err_from_is_err_and c.from_residual-in_err-positive.result c.from_residual-in_err-positive.ensures.1 in
    rw (p.1, p.2) (sign_stops c.args.bytes.now c.args.tokens.now c.args.from (sym c.if-is_falsum.ensures) c.in_ok-left.at c.args.variables.now c.term_at.new.variables c.term_at.new.symbols c.in_ok-left.left c.in_ok-left.ensures.reads c.in_err-positive.field-0.0 c.in_err-positive.ensures)

pub returns-in_err-right-clause-stops : goal.returns-in_err-right-clause-stops
returns-in_err-right-clause-stops c =
    let p = err_from_is_err_and c.from_residual-in_err-right.result c.from_residual-in_err-right.ensures.1 in
    rw (p.1, p.2) (right_stops c.args.bytes.now c.args.tokens.now c.args.from (sym c.if-is_falsum.ensures) c.in_ok-left.at c.args.variables.now c.term_at.new.variables c.term_at.new.symbols c.in_ok-left.left c.in_ok-left.ensures.reads c.in_ok-positive.at c.in_ok-positive.positive c.in_ok-positive.ensures c.in_err-right.field-0.0 c.in_err-right.ensures.stops)

pub returns-clause-reads : goal.returns-clause-reads
returns-clause-reads c =
    sides_read c.args.bytes.now c.args.tokens.now c.args.from (sym c.if-is_falsum.ensures) c.in_ok-left.at c.args.variables.now c.term_at.new.variables c.term_at.new.symbols c.in_ok-left.left c.in_ok-left.ensures.reads c.in_ok-positive.at c.in_ok-positive.positive c.in_ok-positive.ensures c.in_ok-right.end c.term_at-2.new.variables c.term_at-2.new.symbols c.in_ok-right.right c.in_ok-right.ensures.grows c.in_ok-right.ensures.reads c.args.symbols.now c.in_ok-left.ensures.interns c.in_ok-right.ensures.interns

pub returns-then-is_falsum-clause-grows : goal.returns-then-is_falsum-clause-grows
returns-then-is_falsum-clause-grows c = grows_not c.args.symbols.now

pub returns-in_err-right-clause-grows : goal.returns-in_err-right-clause-grows
returns-in_err-right-clause-grows c = grows_twice c.args.symbols.now c.term_at.new.symbols c.term_at-2.new.symbols c.in_ok-left.ensures.grows c.in_err-right.ensures.grows

pub returns-clause-grows : goal.returns-clause-grows
returns-clause-grows c = grows_twice c.args.symbols.now c.term_at.new.symbols c.term_at-2.new.symbols c.in_ok-left.ensures.grows c.in_ok-right.ensures.grows
