use Rattle.std.proofs.Common.{refl}
use Rattle.uc_clause.specs.declared.terminal.Terminal.TheVariants.{Equal}
use Rattle.uc_clause.specs.declared.grammar.stop.Why.TheVariants.{NoSign}
use Rattle.uc_fof.specs.Rules.{goes_on, stops_first}
use Rattle.uc_fof.specs.Formulas as formulas
use Rattle.uc_fof.proofs.Sequences.{exits_passes, passes_more}
use Rattle.uc_fof.proofs.literals.equals_end.Goals as goal

pub returns-in_err-at : goal.returns-in_err-at
returns-in_err-at c = exits_passes (formulas.term c.args.bytes.now c.args.tokens.now c.args.conjecture c.args.bound.now c.args.from) (formulas.equals c.args.bytes.now c.args.tokens.now c.args.conjecture c.args.bound.now c.args.from) _ _ c.from_residual.ensures.1 (λ r k h. goes_on {v = c.args.from} {middle = c.args.from} refl (stops_first h)) c.in_err-at.ensures

pub returns-in_err-at-2 : goal.returns-in_err-at-2
returns-in_err-at-2 c = exits_passes (formulas.token c.args.bytes.now c.args.tokens.now c.args.conjecture Equal (NoSign c.args.from) c.in_ok-at.at) (formulas.equals c.args.bytes.now c.args.tokens.now c.args.conjecture c.args.bound.now c.args.from) _ _ c.from_residual-in_err-at-2.ensures.1 (λ r k h. goes_on {v = c.args.from} {middle = c.args.from} refl (goes_on c.in_ok-at.ensures.reads (stops_first h))) c.in_err-at-2.ensures

pub returns : goal.returns
returns c = passes_more (formulas.right_side c.args.bytes.now c.args.tokens.now c.args.conjecture c.args.bound.now c.in_ok-at-2.at) (formulas.equals c.args.bytes.now c.args.tokens.now c.args.conjecture c.args.bound.now c.args.from) (λ right. record { left = c.in_ok-at.ensures.value; right = right }) c.right_side_end.result (λ v end h. goes_on {v = c.args.from} {middle = c.args.from} refl (goes_on c.in_ok-at.ensures.reads (goes_on {v = tt} c.in_ok-at-2.ensures (goes_on h refl)))) (λ r k h. goes_on {v = c.args.from} {middle = c.args.from} refl (goes_on c.in_ok-at.ensures.reads (goes_on {v = tt} c.in_ok-at-2.ensures (stops_first h)))) c.right_side_end.ensures
