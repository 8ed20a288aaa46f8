use Rattle.std.proofs.Common.{None, Some, refl, sym, subst}
use Rattle.std.specs.Prelude.{IfOk}
use Rattle.std.proofs.lemmas.Result.{IfOk-weaker}
use Rattle.uc_check.specs.declared.proof.LineSource.{LineSource}
use Rattle.uc_check.specs.declared.checker.Cause.TheVariants.{NotAProblemClause}
use Rattle.uc_check.specs.Tests.{passes, fails}
use Rattle.uc_check.specs.Lines.{Tested}
use Rattle.uc_unify.proofs.Decided.{not_of, of}
use Rattle.uc_check.proofs.checker.test_line.Goals as goal

pub returns-then-branch : goal.returns-then-branch
returns-then-branch c = subst (λ (s : LineSource). Tested c.args.clauses.now c.args.fresh c.args.lines.now c.args.number c.args.line.now s None) (sym c.in-File.is) (passes (of c.in_ok-is_clause-in-File.field-0 c.if-branch.true c.in_ok-is_clause-in-File.ensures) refl)

pub returns-else-branch : goal.returns-else-branch
returns-else-branch c = subst (λ (s : LineSource). Tested c.args.clauses.now c.args.fresh c.args.lines.now c.args.number c.args.line.now s (Some NotAProblemClause)) (sym c.in-File.is) (fails (not_of c.in_ok-is_clause-in-File.field-0 c.if-branch.false c.in_ok-is_clause-in-File.ensures))

pub returns-in-Reflexive : goal.returns-in-Reflexive
returns-in-Reflexive c = subst (λ (s : LineSource). Tested c.args.clauses.now c.args.fresh c.args.lines.now c.args.number c.args.line.now s c.test_reflexive.result) (sym c.in-Reflexive.is) (rw c.as_slice-in-Reflexive.ensures at (c.test_reflexive.ensures c.args.clauses.now c.args.lines.now))

pub returns-in-EncodeGoal : goal.returns-in-EncodeGoal
returns-in-EncodeGoal c = subst (λ (s : LineSource). IfOk c.test_goal.result (Tested c.args.clauses.now c.args.fresh c.args.lines.now c.args.number c.args.line.now s)) (sym c.in-EncodeGoal.is) (IfOk-weaker c.test_goal.result _ _ (λ outcome t. rw c.as_slice-in-EncodeGoal.ensures at (t c.args.clauses.now)) c.test_goal.ensures)

pub returns-in-Refute : goal.returns-in-Refute
returns-in-Refute c = subst (λ (s : LineSource). Tested c.args.clauses.now c.args.fresh c.args.lines.now c.args.number c.args.line.now s c.test_refute.result) (sym c.in-Refute.is) (rw c.as_slice-in-Refute.ensures at (c.test_refute.ensures c.args.clauses.now))
