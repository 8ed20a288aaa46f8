use Rattle.std.proofs.Common.{arith}
use Rattle.std.proofs.lemmas.Result.{err_from_is_err_and}
use Rattle.uc_clause.specs.declared.terminal.Terminal.TheVariants.{Equal}
use Rattle.uc_clause.proofs.Ends.{some_other}
use Rattle.uc_clause.proofs.Sequences.{if_ok, if_err}
use Rattle.uc_clause.proofs.Literals.{equals_left_stops, equals_no_sign, equals_right_stops, equals_reads, equals_interns}
use Rattle.uc_clause.proofs.grammar.literal.equals_at.Goals as goal

pub returns-in_err-left-clause-stops : goal.returns-in_err-left-clause-stops
returns-in_err-left-clause-stops c =
    let p = err_from_is_err_and c.from_residual.result c.from_residual.ensures.1 in
    rw (p.1, p.2) (equals_left_stops c.args.bytes.now c.args.tokens.now c.args.from c.in_err-left.field-0.0 c.in_err-left.ensures.stops)

pub returns-then-not-stands_at-clause-stops : goal.returns-then-not-stands_at-clause-stops
returns-then-not-stands_at-clause-stops c =
    equals_no_sign c.args.bytes.now c.args.tokens.now c.args.from c.args.variables.now c.part_at.new.variables c.part_at.new.symbols c.in_ok-left.left c.in_ok-left.ensures.reads c.if-not-stands_at.ensures

pub overflow_add-at : goal.overflow_add-at
overflow_add-at c = omega (arith, some_other c.args.bytes.now c.args.tokens.now c.in_ok-left.left.end Equal c.if-not-stands_at.ensures (λ e. cc))

pub returns-clause-reads : goal.returns-clause-reads
returns-clause-reads c =
    if_ok c.right_at.result (λ pair r. equals_reads c.args.bytes.now c.args.tokens.now c.args.from c.args.variables.now c.part_at.new.variables c.part_at.new.symbols c.in_ok-left.left c.in_ok-left.ensures.reads c.if-not-stands_at.ensures c.right_at.new.variables c.right_at.new.symbols pair c.right_at.ensures.grows r) c.right_at.ensures.adds

pub returns-clause-stops : goal.returns-clause-stops
returns-clause-stops c =
    if_err c.right_at.result (λ e s. equals_right_stops c.args.bytes.now c.args.tokens.now c.args.from c.args.variables.now c.part_at.new.variables c.part_at.new.symbols c.in_ok-left.left c.in_ok-left.ensures.reads c.if-not-stands_at.ensures e s) c.right_at.ensures.stops

pub returns-clause-interns : goal.returns-clause-interns
returns-clause-interns c =
    if_ok c.right_at.result (λ pair r. equals_interns c.args.bytes.now c.args.tokens.now c.args.from c.args.symbols.now c.part_at.new.symbols c.in_ok-left.left.end c.in_ok-left.ensures.interns c.right_at.new.symbols pair.end r c.if-not-stands_at.ensures) c.right_at.ensures.interns
