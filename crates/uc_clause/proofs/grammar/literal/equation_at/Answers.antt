use Rattle.std.proofs.Common.{arith, ◌∙◌, sym, ap}
use Rattle.std.proofs.lemmas.Result.{err_from_is_err_and}
use Rattle.uc_clause.specs.Items.{sign_of}
use Rattle.uc_clause.proofs.Ends.{some_sign}
use Rattle.uc_clause.proofs.Literals.{equation_left_stops, equation_no_sign, equation_right_stops, equation_reads, equation_interns}
use Rattle.uc_clause.proofs.grammar.literal.equation_at.Goals as goal

pub returns-in_err-left-clause-stops : goal.returns-in_err-left-clause-stops
returns-in_err-left-clause-stops c =
    let p = err_from_is_err_and c.from_residual.result c.from_residual.ensures.1 in
    rw (p.1, p.2) (equation_left_stops c.args.bytes.now c.args.tokens.now c.args.from c.in_err-left.field-0.0 c.in_err-left.ensures.stops)

pub returns-in_default-clause-stops : goal.returns-in_default-clause-stops
returns-in_default-clause-stops c =
    equation_no_sign c.args.bytes.now c.args.tokens.now c.args.from c.args.variables.now c.part_at.new.variables c.part_at.new.symbols c.in_ok-left.left c.in_ok-left.ensures.reads (ap sign_of (sym c.terminal_at.ensures) ∙ sym c.sign_of.ensures ∙ c.in_default.is)

pub overflow_add-at : goal.overflow_add-at
overflow_add-at c = omega (arith, some_sign c.args.bytes.now c.args.tokens.now c.in_ok-left.left.end c.in-Some.positive (ap sign_of (sym c.terminal_at.ensures) ∙ sym c.sign_of.ensures ∙ c.in-Some.is))

pub returns-in_err-pair-clause-stops : goal.returns-in_err-pair-clause-stops
returns-in_err-pair-clause-stops c =
    let p = err_from_is_err_and c.from_residual-in_err-pair.result c.from_residual-in_err-pair.ensures.1 in
    rw (p.1, p.2) (equation_right_stops c.args.bytes.now c.args.tokens.now c.args.from c.args.variables.now c.part_at.new.variables c.part_at.new.symbols c.in_ok-left.left c.in_ok-left.ensures.reads c.in-Some.positive (ap sign_of (sym c.terminal_at.ensures) ∙ sym c.sign_of.ensures ∙ c.in-Some.is) c.in_err-pair.field-0.0 c.in_err-pair.ensures.stops)

pub returns-clause-reads : goal.returns-clause-reads
returns-clause-reads c =
    equation_reads c.args.bytes.now c.args.tokens.now c.args.from c.args.variables.now c.part_at.new.variables c.part_at.new.symbols c.in_ok-left.left c.in_ok-left.ensures.reads c.in-Some.positive (ap sign_of (sym c.terminal_at.ensures) ∙ sym c.sign_of.ensures ∙ c.in-Some.is) c.right_at.new.variables c.right_at.new.symbols c.in_ok-pair.pair c.in_ok-pair.ensures.grows c.in_ok-pair.ensures.adds

pub returns-clause-interns : goal.returns-clause-interns
returns-clause-interns c =
    equation_interns c.args.bytes.now c.args.tokens.now c.args.from c.args.symbols.now c.part_at.new.symbols c.in_ok-left.left.end c.in_ok-left.ensures.interns c.right_at.new.symbols c.in_ok-pair.pair.end c.in_ok-pair.ensures.interns c.in-Some.positive (ap sign_of (sym c.terminal_at.ensures) ∙ sym c.sign_of.ensures ∙ c.in-Some.is)
