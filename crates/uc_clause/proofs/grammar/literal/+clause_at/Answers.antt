use Rattle.std.proofs.Common.{arith, ap}
use Rattle.uc_clause.specs.declared.grammar.literal.Pair.{Pair}
use Rattle.std.proofs.lemmas.Result.{err_from_is_err_and}
use Rattle.uc_clause.specs.declared.terminal.Terminal.TheVariants.{Open, Close}
use Rattle.uc_clause.specs.Items.{is_too_deep}
use Rattle.uc_clause.proofs.Ends.{some_other}
use Rattle.uc_clause.proofs.Sequences.{if_ok, if_err}
use Rattle.uc_clause.proofs.Literals.{literal_is_clause, literal_stops_clause, clause_stops, clause_open, clause_closed, clause_interns, closed_interns}
use Rattle.uc_clause.proofs.grammar.literal.+clause_at.Goals as goal

pub returns-then-not-stands_at-clause-reads : goal.returns-then-not-stands_at-clause-reads
returns-then-not-stands_at-clause-reads t c =
    if_ok c.equation_or_denial_at.result (λ e r. literal_is_clause c.args.bytes.now c.args.tokens.now c.args.from c.args.brackets c.args.variables.now c.equation_or_denial_at.new.variables c.equation_or_denial_at.new.symbols e c.if-not-stands_at.ensures r) c.equation_or_denial_at.ensures.reads

pub returns-then-not-stands_at-clause-stops : goal.returns-then-not-stands_at-clause-stops
returns-then-not-stands_at-clause-stops t c =
    if_err c.equation_or_denial_at.result (λ e s. literal_stops_clause c.args.bytes.now c.args.tokens.now c.args.from c.args.brackets e c.if-not-stands_at.ensures s) c.equation_or_denial_at.ensures.stops

pub returns-then-brackets-ge-MAX_BRACKETS-clause-stops : goal.returns-then-brackets-ge-MAX_BRACKETS-clause-stops
returns-then-brackets-ge-MAX_BRACKETS-clause-stops t c = is_too_deep c.if-not-stands_at.ensures c.if-brackets-ge-MAX_BRACKETS.true

pub overflow_add-from : goal.overflow_add-from
overflow_add-from t c = omega (arith, some_other c.args.bytes.now c.args.tokens.now c.args.from Open c.if-not-stands_at.ensures (λ e. cc))

pub returns-in_err-positive-clause-stops : goal.returns-in_err-positive-clause-stops
returns-in_err-positive-clause-stops t c =
    let p = err_from_is_err_and c.from_residual.result c.from_residual.ensures.1 in
    rw (p.1, p.2) (clause_stops c.args.bytes.now c.args.tokens.now c.args.from c.if-not-stands_at.ensures c.args.brackets c.if-brackets-ge-MAX_BRACKETS.false c.in_err-positive.field-0.0 c.in_err-positive.ensures.stops)

pub returns-then-not-stands_at-2-clause-stops : goal.returns-then-not-stands_at-2-clause-stops
returns-then-not-stands_at-2-clause-stops t c = clause_open c.args.bytes.now c.args.tokens.now c.args.from c.if-not-stands_at.ensures c.args.brackets c.if-brackets-ge-MAX_BRACKETS.false c.args.variables.now c.clause_at.new.variables c.clause_at.new.symbols c.in_ok-positive.field-0.positive c.in_ok-positive.field-0.pair c.in_ok-positive.ensures.reads c.if-not-stands_at-2.ensures

pub overflow_add-end : goal.overflow_add-end
overflow_add-end t c = omega (arith, some_other c.args.bytes.now c.args.tokens.now c.in_ok-positive.field-0.pair.end Close c.if-not-stands_at-2.ensures (λ e. cc))

pub returns-clause-reads : goal.returns-clause-reads
returns-clause-reads t c = clause_closed c.args.bytes.now c.args.tokens.now c.args.from c.if-not-stands_at.ensures c.args.brackets c.if-brackets-ge-MAX_BRACKETS.false c.args.variables.now c.clause_at.new.variables c.clause_at.new.symbols c.in_ok-positive.field-0.positive c.in_ok-positive.field-0.pair c.in_ok-positive.ensures.reads c.if-not-stands_at-2.ensures c.up_to.result c.up_to.ensures

pub returns-then-not-stands_at-clause-interns : goal.returns-then-not-stands_at-clause-interns
returns-then-not-stands_at-clause-interns t c =
    if_ok c.equation_or_denial_at.result (λ e r. clause_interns c.args.bytes.now c.args.tokens.now c.args.from c.args.symbols.now c.equation_or_denial_at.new.symbols e.pair.end c.args.brackets c.if-not-stands_at.ensures r) c.equation_or_denial_at.ensures.interns

pub returns-clause-interns : goal.returns-clause-interns
returns-clause-interns t c = closed_interns c.args.bytes.now c.args.tokens.now c.args.from c.args.symbols.now c.clause_at.new.symbols c.in_ok-positive.field-0.pair.end c.args.brackets c.if-not-stands_at.ensures c.if-brackets-ge-MAX_BRACKETS.false c.in_ok-positive.ensures.interns c.if-not-stands_at-2.ensures c.up_to.result.end (ap (λ (p : Pair). p.end) c.up_to.ensures)
