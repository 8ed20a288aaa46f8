use Rattle.std.proofs.Common.{arith, refl}
use Rattle.std.proofs.lemmas.Result.{err_from_is_err_and}
use Rattle.uc_clause.specs.declared.terminal.Terminal.TheVariants.{Open}
use Rattle.uc_clause.proofs.Ends.{some_other}
use Rattle.uc_fof.specs.Formulas as formulas
use Rattle.uc_fof.proofs.Marks.{some_mark}
use Rattle.uc_fof.proofs.Sequences.{hands_on}
use Rattle.uc_fof.proofs.UpperLists.{quantifier_ahead}
use Rattle.uc_fof.proofs.Openings.{leads_bracket, leads_quantifier}
use Rattle.uc_fof.proofs.formulas.Opened.step.Goals as goal

pub returns-then-self-ge-MAX_BRACKETS-clause-stops : goal.returns-then-self-ge-MAX_BRACKETS-clause-stops
returns-then-self-ge-MAX_BRACKETS-clause-stops c = formulas.is_too_deep c.if-stands_at.ensures c.if-self-ge-MAX_BRACKETS.true

pub overflow_add-self-then-stands_at : goal.overflow_add-self-then-stands_at
overflow_add-self-then-stands_at c = omega (arith, some_other c.args.bytes.now c.args.tokens.now c.args.self.now.at Open c.if-stands_at.ensures (λ e. cc))

pub returns-then-stands_at-clause-goes : goal.returns-then-stands_at-clause-goes
returns-then-stands_at-clause-goes c = (omega (arith, c.if-self-ge-MAX_BRACKETS.false), omega arith, some_other c.args.bytes.now c.args.tokens.now c.args.self.now.at Open c.if-stands_at.ensures (λ e. cc), λ from leads. leads_bracket c.args.bytes.now c.args.tokens.now c.args.conjecture from c.args.self.now.brackets c.args.self.now.bound c.args.self.now.at c.if-stands_at.ensures c.if-self-ge-MAX_BRACKETS.false leads)

pub returns-in_err-end-clause-stops : goal.returns-in_err-end-clause-stops
returns-in_err-end-clause-stops c =
    let p = err_from_is_err_and c.from_residual.result c.from_residual.ensures.1 in
    rw (p.1, p.2) (hands_on (formulas.quantifier c.args.bytes.now c.args.tokens.now c.args.conjecture c.args.self.now.at) (formulas.Formula c.args.bytes.now c.args.tokens.now c.args.conjecture c.args.self.now.brackets c.args.self.now.bound c.args.self.now.at) c.in_err-end.field-0.0 (λ r k h. formulas.stops_in_quantifier c.if-stands_at.ensures c.if-is_mark.ensures h) c.in_err-end.ensures.stops)

pub returns-then-is_mark-clause-goes : goal.returns-then-is_mark-clause-goes
returns-then-is_mark-clause-goes c = (c.requires.few, quantifier_ahead c.args.bytes.now c.args.tokens.now c.args.conjecture c.args.self.now.at c.in_ok-end.ensures.binds.names c.in_ok-end.end c.in_ok-end.ensures.binds.reads, some_mark c.args.bytes.now c.args.tokens.now formulas.bang c.args.self.now.at c.if-is_mark.ensures, λ from leads. leads_quantifier c.args.bytes.now c.args.tokens.now c.args.conjecture from c.args.self.now.brackets c.args.self.now.bound c.quantifier_at.new.bound c.args.self.now.at c.in_ok-end.end c.if-stands_at.ensures c.if-is_mark.ensures c.in_ok-end.ensures.binds leads)

pub returns-then-is_mark-2-clause-stops : goal.returns-then-is_mark-2-clause-stops
returns-then-is_mark-2-clause-stops c = formulas.is_unread c.if-stands_at.ensures c.if-is_mark-2.ensures

pub returns-clause-goes : goal.returns-clause-goes
returns-clause-goes c = (refl, c.if-stands_at.ensures, c.if-is_mark.ensures, c.if-is_mark-2.ensures)
