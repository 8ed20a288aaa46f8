use Rattle.std.proofs.Common.{sym, arith, ◌∙◌, ◌+◌, ap}
use Rattle.std.proofs.lemmas.Result.{err_from_is_err_and}
use Rattle.uc_clause.specs.declared.terminal.Terminal.TheVariants.{CloseSquare, Comma}
use Rattle.uc_clause.specs.Meaning.{with_name}
use Rattle.uc_clause.proofs.Ends.{some_other}
use Rattle.uc_fof.proofs.UpperLists.{bounds_none, upper_stops, last_upper, next_upper, no_upper, upper_ahead}
use Rattle.uc_fof.proofs.quantifiers.uppers_at.Goals as goal

pub uppers-init : goal.uppers-init
uppers-init c = bounds_none c.args.bytes.now c.args.tokens.now c.args.conjecture c.args.from c.args.bound.now

pub returns-in_err-name-clause-stops : goal.returns-in_err-name-clause-stops
returns-in_err-name-clause-stops c =
    let p = err_from_is_err_and c.from_residual.result c.from_residual.ensures.1 in
    rw (p.1, p.2) (upper_stops c.args.bytes.now c.args.tokens.now c.args.conjecture c.args.from c.args.bound.now c.uppers.bound c.uppers.at c.uppers.invariant c.in_err-name.field-0.0 c.in_err-name.ensures)

pub overflow_add-result : goal.overflow_add-result
overflow_add-result c = omega (arith, some_other c.args.bytes.now c.args.tokens.now c.in_ok-name.end CloseSquare (sym c.in-CloseSquare.ensures) (λ e. cc))

pub returns-in-CloseSquare-clause-binds : goal.returns-in-CloseSquare-clause-binds
returns-in-CloseSquare-clause-binds c = last_upper c.args.bytes.now c.args.tokens.now c.args.conjecture c.args.from c.args.bound.now c.uppers.bound c.uppers.at c.uppers.invariant c.in_ok-name.name c.in_ok-name.end c.in_ok-name.ensures c.bind.new.self (c.in_ok-bind.ensures.ok ∙ ap (with_name c.uppers.bound) c.spelling_at.ensures) (sym c.in-CloseSquare.ensures)

pub overflow_add-at : goal.overflow_add-at
overflow_add-at c = omega (arith, some_other c.args.bytes.now c.args.tokens.now c.in_ok-name.end Comma (sym c.in-Comma.ensures) (λ e. cc))

pub uppers-smaller : goal.uppers-smaller
uppers-smaller c = omega (arith, some_other c.args.bytes.now c.args.tokens.now c.in_ok-name.end Comma (sym c.in-Comma.ensures) (λ e. cc), upper_ahead c.args.bytes.now c.args.tokens.now c.args.conjecture c.uppers.at c.in_ok-name.name c.in_ok-name.end c.in_ok-name.ensures)

pub uppers-preserved : goal.uppers-preserved
uppers-preserved c = next_upper c.args.bytes.now c.args.tokens.now c.args.conjecture c.args.from c.args.bound.now c.uppers.bound c.uppers.at c.uppers.invariant c.in_ok-name.name c.in_ok-name.end c.in_ok-name.ensures c.bind.new.self (c.in_ok-bind.ensures.ok ∙ ap (with_name c.uppers.bound) c.spelling_at.ensures) (sym c.in-Comma.ensures)

pub returns-in_default-clause-stops : goal.returns-in_default-clause-stops
returns-in_default-clause-stops c =
    no_upper c.args.bytes.now c.args.tokens.now c.args.conjecture c.args.from c.args.bound.now c.uppers.bound c.uppers.at c.uppers.invariant c.in_ok-name.name c.in_ok-name.end c.in_ok-name.ensures (λ e. c.in_default.not-CloseSquare (c.terminal_at.ensures ∙ e)) (λ e. c.in_default.not-Comma (c.terminal_at.ensures ∙ e))
