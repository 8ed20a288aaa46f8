use Rattle.std.proofs.Common.{refl}
use Rattle.uc_clause.specs.declared.terminal.Terminal.TheVariants.{Open, Close}
use Rattle.uc_clause.specs.declared.grammar.stop.Why.TheVariants.{NoToken}
use Rattle.uc_fof.specs.Rules.{goes_on, stops_first}
use Rattle.uc_fof.specs.Formulas as formulas
use Rattle.uc_fof.proofs.Sequences.{exits_passes, goes_passes}
use Rattle.uc_fof.proofs.literals.bracketed_end.Goals as goal

pub returns-in_err-at : goal.returns-in_err-at
returns-in_err-at c = exits_passes (formulas.token c.args.bytes.now c.args.tokens.now c.args.conjecture Open NoToken c.args.from) (formulas.equals_in_brackets c.args.bytes.now c.args.tokens.now c.args.conjecture c.args.bound.now c.args.from) _ _ c.from_residual.ensures.1 (λ r k h. stops_first h) c.in_err-at.ensures

pub returns-in_err-at-2 : goal.returns-in_err-at-2
returns-in_err-at-2 c = exits_passes (formulas.equals c.args.bytes.now c.args.tokens.now c.args.conjecture c.args.bound.now c.in_ok-at.at) (formulas.equals_in_brackets c.args.bytes.now c.args.tokens.now c.args.conjecture c.args.bound.now c.args.from) _ _ c.from_residual-in_err-at-2.ensures.1 (λ r k h. goes_on {v = tt} c.in_ok-at.ensures (stops_first h)) c.in_err-at-2.ensures

pub returns : goal.returns
returns c = goes_passes (formulas.token c.args.bytes.now c.args.tokens.now c.args.conjecture Close NoToken c.in_ok-at-2.at) (formulas.equals_in_brackets c.args.bytes.now c.args.tokens.now c.args.conjecture c.args.bound.now c.args.from) c.in_ok-at-2.ensures.value c.expect-2.result (λ end h. goes_on {v = tt} c.in_ok-at.ensures (goes_on c.in_ok-at-2.ensures.reads (goes_on {v = tt} h refl))) (λ r k h. goes_on {v = tt} c.in_ok-at.ensures (goes_on c.in_ok-at-2.ensures.reads (stops_first h))) c.expect-2.ensures
