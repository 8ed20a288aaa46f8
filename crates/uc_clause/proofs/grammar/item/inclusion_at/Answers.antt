use Rattle.std.proofs.Common.{refl}
use Rattle.uc_clause.specs.declared.terminal.Terminal.TheVariants.{Lower, Open, Dot}
use Rattle.uc_clause.specs.declared.grammar.stop.Why.TheVariants.{NoItem, NoToken}
use Rattle.uc_clause.specs.Rules.{the, goes_on, stops_first}
use Rattle.uc_clause.specs.Items as items
use Rattle.uc_clause.proofs.Sequences.{exits}
use Rattle.uc_clause.proofs.grammar.item.inclusion_at.Goals as goal

pub returns-in_err-at : goal.returns-in_err-at
returns-in_err-at c = exits (the c.args.bytes.now c.args.tokens.now Lower NoItem c.args.from) (items.include c.args.bytes.now c.args.tokens.now c.args.from) _ _ c.from_residual.ensures.1 (λ why k h. (goes_on {v = c.args.from} {middle = c.args.from} refl (stops_first h))) c.in_err-at.ensures

pub returns-in_err-at-2 : goal.returns-in_err-at-2
returns-in_err-at-2 c = exits (the c.args.bytes.now c.args.tokens.now Open NoToken c.in_ok-at.at) (items.include c.args.bytes.now c.args.tokens.now c.args.from) _ _ c.from_residual-in_err-at-2.ensures.1 (λ why k h. (goes_on {v = c.args.from} {middle = c.args.from} refl (goes_on {v = tt} c.in_ok-at.ensures (stops_first h)))) c.in_err-at-2.ensures

pub returns-in_err-file : goal.returns-in_err-file
returns-in_err-file c = exits (items.quoted c.args.bytes.now c.args.tokens.now c.in_ok-at-2.at) (items.include c.args.bytes.now c.args.tokens.now c.args.from) _ _ c.from_residual-in_err-file.ensures.1 (λ why k h. (goes_on {v = c.args.from} {middle = c.args.from} refl (goes_on {v = tt} c.in_ok-at.ensures (goes_on {v = tt} c.in_ok-at-2.ensures (stops_first h))))) c.in_err-file.ensures

pub returns-in_err-names : goal.returns-in_err-names
returns-in_err-names c = exits (items.selected c.args.bytes.now c.args.tokens.now c.in_ok-file.at) (items.include c.args.bytes.now c.args.tokens.now c.args.from) _ _ c.from_residual-in_err-names.ensures.1 (λ why k h. (goes_on {v = c.args.from} {middle = c.args.from} refl (goes_on {v = tt} c.in_ok-at.ensures (goes_on {v = tt} c.in_ok-at-2.ensures (goes_on c.in_ok-file.ensures (stops_first h)))))) c.in_err-names.ensures

pub returns-in_err-end : goal.returns-in_err-end
returns-in_err-end c = exits (the c.args.bytes.now c.args.tokens.now Dot NoToken c.in_ok-names.at) (items.include c.args.bytes.now c.args.tokens.now c.args.from) _ _ c.from_residual-in_err-end.ensures.1 (λ why k h. (goes_on {v = c.args.from} {middle = c.args.from} refl (goes_on {v = tt} c.in_ok-at.ensures (goes_on {v = tt} c.in_ok-at-2.ensures (goes_on c.in_ok-file.ensures (goes_on c.in_ok-names.ensures (stops_first h))))))) c.in_err-end.ensures

pub returns : goal.returns
returns c = (goes_on {v = c.args.from} {middle = c.args.from} refl (goes_on {v = tt} c.in_ok-at.ensures (goes_on {v = tt} c.in_ok-at-2.ensures (goes_on c.in_ok-file.ensures (goes_on c.in_ok-names.ensures (goes_on {v = tt} c.in_ok-end.ensures refl))))))
