use Rattle.std.proofs.Common.{refl, arith}
use Rattle.uc_clause.specs.declared.terminal.Terminal.TheVariants.{OpenSquare, CloseSquare}
use Rattle.uc_clause.specs.declared.grammar.stop.Why.TheVariants.{NoSelection}
use Rattle.uc_clause.specs.Rules.{the, goes_on, stops_first, is_first, is_second}
use Rattle.uc_clause.specs.Items as items
use Rattle.uc_clause.proofs.Ends.{some_other}
use Rattle.uc_clause.proofs.Sequences.{gives_more, exits}
use Rattle.uc_clause.proofs.grammar.item.list_at.Goals as goal

pub returns-in_err-at : goal.returns-in_err-at
returns-in_err-at c = exits (the c.args.bytes.now c.args.tokens.now OpenSquare NoSelection c.args.from) (items.list c.args.bytes.now c.args.tokens.now c.args.from) _ _ c.from_residual.ensures.1 (λ why k h. (stops_first h)) c.in_err-at.ensures

pub overflow_add-result : goal.overflow_add-result
overflow_add-result c = omega (arith, some_other c.args.bytes.now c.args.tokens.now c.in_ok-at.at CloseSquare c.if-stands_at.ensures (λ e. cc))

pub returns-then-stands_at : goal.returns-then-stands_at
returns-then-stands_at c = rw c.new.ensures (goes_on {v = tt} c.in_ok-at.ensures (is_first c.if-stands_at.ensures (goes_on {v = tt} (c.if-stands_at.ensures, refl) refl)))

pub returns-else-stands_at : goal.returns-else-stands_at
returns-else-stands_at c = gives_more (items.Names c.args.bytes.now c.args.tokens.now c.in_ok-at.at) (items.list c.args.bytes.now c.args.tokens.now c.args.from) c.names_at.result (λ o h. goes_on {v = tt} c.in_ok-at.ensures (is_second c.if-stands_at.ensures h)) c.names_at.ensures
