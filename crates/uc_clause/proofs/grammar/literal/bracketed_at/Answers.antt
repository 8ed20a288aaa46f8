use Rattle.std.proofs.Common.{arith, ap}
use Rattle.uc_clause.specs.declared.grammar.literal.Pair.{Pair}
use Rattle.std.proofs.lemmas.Result.{err_from_is_err_and}
use Rattle.uc_clause.specs.declared.terminal.Terminal.TheVariants.{Close}
use Rattle.uc_clause.proofs.Ends.{some_other}
use Rattle.uc_clause.proofs.Literals.{bracketed_stops, bracketed_open, bracketed_closed, bracketed_interns}
use Rattle.uc_clause.proofs.grammar.literal.bracketed_at.Goals as goal

pub returns-in_err-pair-clause-stops : goal.returns-in_err-pair-clause-stops
returns-in_err-pair-clause-stops c =
    let p = err_from_is_err_and c.from_residual.result c.from_residual.ensures.1 in
    rw (p.1, p.2) (bracketed_stops c.args.bytes.now c.args.tokens.now c.args.from c.requires.opens c.in_err-pair.field-0.0 c.in_err-pair.ensures.stops)

pub returns-then-not-stands_at-clause-stops : goal.returns-then-not-stands_at-clause-stops
returns-then-not-stands_at-clause-stops c = bracketed_open c.args.bytes.now c.args.tokens.now c.args.from c.requires.opens c.args.variables.now c.equals_at.new.variables c.equals_at.new.symbols c.in_ok-pair.pair c.in_ok-pair.ensures.reads c.if-not-stands_at.ensures

pub overflow_add-end : goal.overflow_add-end
overflow_add-end c = omega (arith, some_other c.args.bytes.now c.args.tokens.now c.in_ok-pair.pair.end Close c.if-not-stands_at.ensures (λ e. cc))

pub returns-clause-reads : goal.returns-clause-reads
returns-clause-reads c = bracketed_closed c.args.bytes.now c.args.tokens.now c.args.from c.requires.opens c.args.variables.now c.equals_at.new.variables c.equals_at.new.symbols c.in_ok-pair.pair c.in_ok-pair.ensures.reads c.if-not-stands_at.ensures c.up_to.result c.up_to.ensures

pub returns-clause-interns : goal.returns-clause-interns
returns-clause-interns c = bracketed_interns c.args.bytes.now c.args.tokens.now c.args.from c.args.symbols.now c.equals_at.new.symbols c.in_ok-pair.pair.end c.requires.opens c.in_ok-pair.ensures.interns c.if-not-stands_at.ensures c.up_to.result.end (ap (λ (p : Pair). p.end) c.up_to.ensures)
