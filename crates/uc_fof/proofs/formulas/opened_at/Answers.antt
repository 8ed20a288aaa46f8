use Rattle.std.proofs.Common.{arith, subst}
use Rattle.std.proofs.lemmas.Result.{err_from_is_err_and}
use Rattle.uc_fof.specs.Given.{Opens}
use Rattle.uc_fof.proofs.Openings.{leads_none, stop_leads}
use Rattle.uc_fof.proofs.formulas.opened_at.Goals as goal

pub openings-init : goal.openings-init
openings-init c = record { few = omega arith; leads = rw c.new.ensures (leads_none c.args.bytes.now c.args.tokens.now c.args.conjecture c.args.from) }

pub returns-in_err-step-clause-stops : goal.returns-in_err-step-clause-stops
returns-in_err-step-clause-stops c =
    let p = err_from_is_err_and c.from_residual.result c.from_residual.ensures.1 in
    rw (p.1, p.2) (stop_leads c.args.bytes.now c.args.tokens.now c.args.conjecture c.args.from c.openings.opened.brackets c.openings.opened.bound c.openings.opened.at c.openings.invariant.leads c.in_err-step.field-0.0 c.in_err-step.ensures.stops)

pub openings-preserved : goal.openings-preserved
openings-preserved c =
    let o = subst (Opens c.args.bytes.now c.args.tokens.now c.args.conjecture c.openings.opened c.step.new.self) c.if-branch.true c.in_ok-step.ensures.goes in
    record { few = o.0; leads = o.3 c.args.from c.openings.invariant.leads }
