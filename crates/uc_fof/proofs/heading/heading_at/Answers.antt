use Rattle.std.proofs.Common.{refl}
use Rattle.uc_clause.specs.declared.terminal.Terminal.TheVariants.{Lower, Open, Comma}
use Rattle.uc_clause.specs.declared.grammar.stop.Why.TheVariants.{NoItem, NoToken}
use Rattle.uc_clause.specs.Items as items
use Rattle.uc_fof.specs.Rules.{goes_on, stops_first, AsIn}
use Rattle.uc_fof.specs.Formulas as formulas
use Rattle.uc_fof.proofs.Sequences.{exits}
use Rattle.uc_fof.proofs.heading.heading_at.Goals as goal

pub returns-in_err-at : goal.returns-in_err-at
returns-in_err-at c = exits (formulas.outer c.args.bytes.now c.args.tokens.now Lower NoItem c.args.from) (formulas.heading c.args.bytes.now c.args.tokens.now c.args.from) _ _ c.from_residual.ensures.1 (λ r k h. (goes_on {v = c.args.from} {middle = c.args.from} refl (stops_first h))) c.in_err-at.ensures

pub returns-in_err-at-2 : goal.returns-in_err-at-2
returns-in_err-at-2 c = exits (formulas.outer c.args.bytes.now c.args.tokens.now Open NoToken c.in_ok-at.at) (formulas.heading c.args.bytes.now c.args.tokens.now c.args.from) _ _ c.from_residual-in_err-at-2.ensures.1 (λ r k h. (goes_on {v = c.args.from} {middle = c.args.from} refl (goes_on {v = tt} c.in_ok-at.ensures (stops_first h)))) c.in_err-at-2.ensures

pub returns-in_err-name : goal.returns-in_err-name
returns-in_err-name c = exits (AsIn (items.name c.args.bytes.now c.args.tokens.now) c.in_ok-at-2.at) (formulas.heading c.args.bytes.now c.args.tokens.now c.args.from) _ _ c.from_residual-in_err-name.ensures.1 (λ r k h. (goes_on {v = c.args.from} {middle = c.args.from} refl (goes_on {v = tt} c.in_ok-at.ensures (goes_on {v = tt} c.in_ok-at-2.ensures (stops_first h))))) c.in_err-name.ensures

pub returns-in_err-role_from : goal.returns-in_err-role_from
returns-in_err-role_from c = exits (formulas.outer c.args.bytes.now c.args.tokens.now Comma NoToken c.in_ok-name.at) (formulas.heading c.args.bytes.now c.args.tokens.now c.args.from) _ _ c.from_residual-in_err-role_from.ensures.1 (λ r k h. (goes_on {v = c.args.from} {middle = c.args.from} refl (goes_on {v = tt} c.in_ok-at.ensures (goes_on {v = tt} c.in_ok-at-2.ensures (goes_on c.in_ok-name.ensures (stops_first h)))))) c.in_err-role_from.ensures

pub returns-in_err-role : goal.returns-in_err-role
returns-in_err-role c = exits (formulas.role c.args.bytes.now c.args.tokens.now c.in_ok-role_from.role_from) (formulas.heading c.args.bytes.now c.args.tokens.now c.args.from) _ _ c.from_residual-in_err-role.ensures.1 (λ r k h. (goes_on {v = c.args.from} {middle = c.args.from} refl (goes_on {v = tt} c.in_ok-at.ensures (goes_on {v = tt} c.in_ok-at-2.ensures (goes_on c.in_ok-name.ensures (goes_on {v = tt} c.in_ok-role_from.ensures (goes_on {v = c.in_ok-role_from.role_from} {middle = c.in_ok-role_from.role_from} refl (stops_first h)))))))) c.in_err-role.ensures

pub returns-in_err-end : goal.returns-in_err-end
returns-in_err-end c = exits (formulas.outer c.args.bytes.now c.args.tokens.now Comma NoToken c.in_ok-role.at) (formulas.heading c.args.bytes.now c.args.tokens.now c.args.from) _ _ c.from_residual-in_err-end.ensures.1 (λ r k h. (goes_on {v = c.args.from} {middle = c.args.from} refl (goes_on {v = tt} c.in_ok-at.ensures (goes_on {v = tt} c.in_ok-at-2.ensures (goes_on c.in_ok-name.ensures (goes_on {v = tt} c.in_ok-role_from.ensures (goes_on {v = c.in_ok-role_from.role_from} {middle = c.in_ok-role_from.role_from} refl (goes_on c.in_ok-role.ensures (stops_first h))))))))) c.in_err-end.ensures

pub returns : goal.returns
returns c = (goes_on {v = c.args.from} {middle = c.args.from} refl (goes_on {v = tt} c.in_ok-at.ensures (goes_on {v = tt} c.in_ok-at-2.ensures (goes_on c.in_ok-name.ensures (goes_on {v = tt} c.in_ok-role_from.ensures (goes_on {v = c.in_ok-role_from.role_from} {middle = c.in_ok-role_from.role_from} refl (goes_on c.in_ok-role.ensures (goes_on {v = tt} c.in_ok-end.ensures refl))))))))
