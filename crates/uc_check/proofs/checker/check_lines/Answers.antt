use Rattle.std.proofs.Common.{◌≡◌, List, Option, length, slice_get, Some, refl, subst, arith}
use Rattle.std.proofs.lemmas.Option.{slice_get_read}
use Rattle.uc_term.specs.declared.fresh.Fresh.{Fresh}
use Rattle.uc_check.specs.declared.proof.Line.{Line}
use Rattle.uc_check.specs.Checks.{AreRightBefore, FailsFirst}
use Rattle.uc_check.proofs.Last.{right_more}
use Rattle.uc_check.proofs.checker.check_lines.Goals as goal

pub loop-number-preserved : goal.loop-number-preserved
loop-number-preserved c =
    let lines = c.as_slice-lines.result.now in
    let at : slice_get lines c.loop-number.number ≡ Some c.index-lines-number.result = slice_get_read lines (length lines) c.loop-number.number c.index-lines-number.result refl c.loop-number-test.true c.index-lines-number.is in
    right_more c.args.clauses.now c.copied-marks.result lines c.loop-number.number c.index-lines-number.result at (rw c.in_default.is at c.in_ok-cause.ensures) c.loop-number.invariant

pub returns-in-Some : goal.returns-in-Some
returns-in-Some c =
    let lines = c.as_slice-lines.result.now in
    let at : slice_get lines c.loop-number.number ≡ Some c.index-lines-number.result = slice_get_read lines (length lines) c.loop-number.number c.index-lines-number.result refl c.loop-number-test.true c.index-lines-number.is in
    let fails : FailsFirst c.args.clauses.now c.copied-marks.result lines c.loop-number.number c.in-Some.cause = record { line = c.index-lines-number.result; line_is = at; before = c.loop-number.invariant; test = rw c.in-Some.is at c.in_ok-cause.ensures } in
    subst (λ (f : Option Fresh). FailsFirst c.args.clauses.now f c.args.proof.now.lines c.loop-number.number c.in-Some.cause) c.copied-marks.ensures (subst (λ (l : List Line). FailsFirst c.args.clauses.now c.copied-marks.result l c.loop-number.number c.in-Some.cause) c.as_slice-lines.ensures fails)

pub returns : goal.returns
returns c =
    let all : AreRightBefore c.args.clauses.now c.copied-marks.result c.as_slice-lines.result.now (length c.as_slice-lines.result.now) = λ j h. c.loop-number.invariant j (omega (arith, c.loop-number-test.false)) in
    subst (λ (f : Option Fresh). AreRightBefore c.args.clauses.now f c.args.proof.now.lines (length c.args.proof.now.lines)) c.copied-marks.ensures (subst (λ (l : List Line). AreRightBefore c.args.clauses.now c.copied-marks.result l (length l)) c.as_slice-lines.ensures all)
