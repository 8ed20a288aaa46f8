use Rattle.std.proofs.Common.{refl, ap}
use Rattle.std.specs.Prelude.{Result, Ok, Err, IfOk, IfErr}
use Rattle.uc_clause.specs.declared.terminal.Terminal.TheVariants.{OpenSquare}
use Rattle.uc_clause.specs.declared.grammar.stop.Why.TheVariants.{NoToken}
use Rattle.uc_fof.specs.declared.stop.Reason.TheVariants.{Inside}
use Rattle.uc_fof.specs.Rules.{goes_on, stops_first, the}
use Rattle.uc_fof.specs.Formulas as formulas
use Rattle.uc_fof.proofs.Sequences.{exits_err}
use Rattle.uc_fof.proofs.UpperLists.{quantifier_binds, quantifier_stops}
use Rattle.uc_fof.proofs.quantifiers.quantifier_at.Goals as goal

pub returns-in_err-at-clause-stops : goal.returns-in_err-at-clause-stops
returns-in_err-at-clause-stops c = exits_err (the (formulas.is_mark c.args.bytes.now c.args.tokens.now formulas.bang) (Inside c.args.conjecture NoToken) c.args.from) (formulas.quantifier c.args.bytes.now c.args.tokens.now c.args.conjecture c.args.from) _ _ c.from_residual.ensures.1 (λ r k h. stops_first h) c.in_err-at.ensures

pub returns-in_err-at-2-clause-stops : goal.returns-in_err-at-2-clause-stops
returns-in_err-at-2-clause-stops c = exits_err (formulas.token c.args.bytes.now c.args.tokens.now c.args.conjecture OpenSquare NoToken c.in_ok-at.at) (formulas.quantifier c.args.bytes.now c.args.tokens.now c.args.conjecture c.args.from) _ _ c.from_residual-in_err-at-2.ensures.1 (λ r k h. goes_on {v = tt} c.in_ok-at.ensures (stops_first h)) c.in_err-at-2.ensures

pub returns-in_err-at-3-clause-stops : goal.returns-in_err-at-3-clause-stops
returns-in_err-at-3-clause-stops c = exits_err (formulas.Uppers c.args.bytes.now c.args.tokens.now c.args.conjecture c.in_ok-at-2.at) (formulas.quantifier c.args.bytes.now c.args.tokens.now c.args.conjecture c.args.from) _ _ c.from_residual-in_err-at-3.ensures.1 (λ r k h. goes_on {v = tt} c.in_ok-at.ensures (goes_on {v = tt} c.in_ok-at-2.ensures (stops_first h))) c.in_err-at-3.ensures.stops

pub returns-clause-binds : goal.returns-clause-binds
returns-clause-binds c = quantifier_binds c.args.bytes.now c.args.tokens.now c.args.conjecture c.args.from c.in_ok-at.at c.in_ok-at-2.at c.in_ok-at-3.at c.in_ok-at.ensures c.in_ok-at-2.ensures c.args.bound.now c.uppers_at.new.bound c.in_ok-at-3.ensures.binds c.expect_mark-2.result c.expect_mark-2.ensures

pub returns-clause-stops : goal.returns-clause-stops
returns-clause-stops c = quantifier_stops c.args.bytes.now c.args.tokens.now c.args.conjecture c.args.from c.in_ok-at.at c.in_ok-at-2.at c.in_ok-at-3.at c.in_ok-at.ensures c.in_ok-at-2.ensures c.args.bound.now c.uppers_at.new.bound c.in_ok-at-3.ensures.binds c.expect_mark-2.result c.expect_mark-2.ensures
