use Rattle.std.proofs.Common.{refl, arith, ◌+◌}
use Rattle.uc_clause.specs.declared.terminal.Terminal.TheVariants.{Close, Comma}
use Rattle.uc_clause.specs.declared.grammar.stop.Why.TheVariants.{NoToken}
use Rattle.uc_clause.specs.Rules.{the, goes_on, stops_first, is_first, is_second}
use Rattle.uc_clause.specs.Items as items
use Rattle.uc_clause.proofs.Ends.{some_other}
use Rattle.uc_clause.proofs.Sequences.{exits}
use Rattle.uc_clause.proofs.grammar.item.selected_at.Goals as goal

pub returns-in_err-end : goal.returns-in_err-end
returns-in_err-end c = exits (the c.args.bytes.now c.args.tokens.now Close NoToken c.args.from) (items.selected c.args.bytes.now c.args.tokens.now c.args.from) _ _ c.from_residual.ensures.1 (λ why k h. is_second c.if-not-stands_at.ensures (stops_first h)) c.in_err-end.ensures

pub returns-then-not-stands_at : goal.returns-then-not-stands_at
returns-then-not-stands_at c = is_second c.if-not-stands_at.ensures (goes_on {v = tt} c.in_ok-end.ensures refl)

pub overflow_add-from : goal.overflow_add-from
overflow_add-from c = omega (arith, some_other c.args.bytes.now c.args.tokens.now c.args.from Comma c.if-not-stands_at.ensures (λ e. cc))

pub returns-in_err-names : goal.returns-in_err-names
returns-in_err-names c = exits (items.list c.args.bytes.now c.args.tokens.now (c.args.from + 1)) (items.selected c.args.bytes.now c.args.tokens.now c.args.from) _ _ c.from_residual-in_err-names.ensures.1 (λ why k h. is_first c.if-not-stands_at.ensures (goes_on {v = tt} {middle = c.args.from + 1} (c.if-not-stands_at.ensures, refl) (stops_first h))) c.in_err-names.ensures

pub returns-in_err-end-2 : goal.returns-in_err-end-2
returns-in_err-end-2 c = exits (the c.args.bytes.now c.args.tokens.now Close NoToken c.in_ok-names.at) (items.selected c.args.bytes.now c.args.tokens.now c.args.from) _ _ c.from_residual-in_err-end-2.ensures.1 (λ why k h. is_first c.if-not-stands_at.ensures (goes_on {v = tt} {middle = c.args.from + 1} (c.if-not-stands_at.ensures, refl) (goes_on c.in_ok-names.ensures (stops_first h)))) c.in_err-end-2.ensures

pub returns : goal.returns
returns c = is_first c.if-not-stands_at.ensures (goes_on {v = tt} {middle = c.args.from + 1} (c.if-not-stands_at.ensures, refl) (goes_on c.in_ok-names.ensures (goes_on {v = tt} c.in_ok-end-2.ensures refl)))
