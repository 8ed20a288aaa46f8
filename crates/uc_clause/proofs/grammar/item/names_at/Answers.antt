use Rattle.std.proofs.Common.{sym, subst, arith, ◌∙◌, ◌+◌}
use Rattle.std.proofs.lemmas.Result.{err_from_is_err_and}
use Rattle.uc_clause.specs.declared.terminal.Terminal.TheVariants.{CloseSquare, Comma}
use Rattle.uc_clause.proofs.Ends.{some_other}
use Rattle.uc_clause.proofs.Lists.{Lists, name_stops, last_name, next_name, no_name, name_end}
use Rattle.uc_clause.proofs.grammar.item.names_at.Goals as goal

pub returns-in_err-name : goal.returns-in_err-name
returns-in_err-name c =
    let p = err_from_is_err_and c.from_residual.result c.from_residual.ensures.1 in
    rw (p.1, p.2) (name_stops c.args.bytes.now c.args.tokens.now c.args.from c.names.at c.names.names.items c.names.invariant c.in_err-name.field-0.0 c.in_err-name.ensures)

pub overflow_add-result : goal.overflow_add-result
overflow_add-result c = omega (arith, some_other c.args.bytes.now c.args.tokens.now c.in_ok-name.end CloseSquare (sym c.in-CloseSquare.ensures) (λ e. cc))

pub returns-in-CloseSquare : goal.returns-in-CloseSquare
returns-in-CloseSquare c =
    rw (c.from_vec.ensures, c.in_ok-push.ensures.items) (last_name c.args.bytes.now c.args.tokens.now c.args.from c.names.at c.names.names.items c.names.invariant c.in_ok-name.name c.in_ok-name.end c.in_ok-name.ensures (sym c.in-CloseSquare.ensures))

pub overflow_add-at : goal.overflow_add-at
overflow_add-at c = omega (arith, some_other c.args.bytes.now c.args.tokens.now c.in_ok-name.end Comma (sym c.in-Comma.ensures) (λ e. cc))

pub names-smaller : goal.names-smaller
names-smaller c = omega (arith, some_other c.args.bytes.now c.args.tokens.now c.in_ok-name.end Comma (sym c.in-Comma.ensures) (λ e. cc), name_end c.args.bytes.now c.args.tokens.now c.names.at c.in_ok-name.name c.in_ok-name.end c.in_ok-name.ensures)

pub names-preserved : goal.names-preserved
names-preserved c =
    subst (λ ns. Lists c.args.bytes.now c.args.tokens.now c.args.from ns (c.in_ok-name.end + 1)) (sym c.in_ok-push.ensures.items) (next_name c.args.bytes.now c.args.tokens.now c.args.from c.names.at c.names.names.items c.names.invariant c.in_ok-name.name c.in_ok-name.end c.in_ok-name.ensures (sym c.in-Comma.ensures))

pub returns-in_default : goal.returns-in_default
returns-in_default c =
    no_name c.args.bytes.now c.args.tokens.now c.args.from c.names.at c.names.names.items c.names.invariant c.in_ok-name.name c.in_ok-name.end c.in_ok-name.ensures (λ e. c.in_default.not-CloseSquare (c.terminal_at.ensures ∙ e)) (λ e. c.in_default.not-Comma (c.terminal_at.ensures ∙ e))
