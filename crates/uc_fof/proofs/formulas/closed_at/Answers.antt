use Rattle.std.proofs.Common.{arith, ◌-◌, ◌+◌, subst, sym}
use Rattle.std.proofs.lemmas.Result.{err_from_is_err_and}
use Rattle.uc_fof.proofs.Openings.{closed_none, closed_all, closed_more, closing_not, closed_there}
use Rattle.uc_fof.proofs.formulas.closed_at.Goals as goal

pub closings-init : goal.closings-init
closings-init c = record { few = omega arith; closed = closed_none c.args.bytes.now c.args.tokens.now c.args.conjecture c.args.brackets c.args.from (c.args.brackets - 0) (omega arith) }

pub returns-in_err-at : goal.returns-in_err-at
returns-in_err-at c =
    let p = err_from_is_err_and c.from_residual.result c.from_residual.ensures.1 in
    rw (p.1, p.2) (closing_not c.args.bytes.now c.args.tokens.now c.args.conjecture c.args.brackets c.args.from c.closings.closed c.closings.at c.closings-test.true c.closings.invariant.closed c.in_err-at.field-0.0 c.in_err-at.ensures)

pub closings-preserved : goal.closings-preserved
closings-preserved c = record { few = omega (arith, c.closings-test.true); closed = closed_there c.args.bytes.now c.args.tokens.now c.args.conjecture c.args.brackets c.args.from c.closings.closed c.closings.at c.closings-test.true c.closings.invariant.closed c.in_ok-at.at c.in_ok-at.ensures }

pub returns : goal.returns
returns c = let h = c.closings.invariant.few in closed_all c.args.bytes.now c.args.tokens.now c.args.conjecture c.args.brackets c.args.from (c.args.brackets - c.closings.closed) c.closings.at (omega (arith, c.closings-test.false)) c.closings.invariant.closed
