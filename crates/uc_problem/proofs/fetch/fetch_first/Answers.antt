use Rattle.std.proofs.Common.{None, ◌∙◌, arith}
use Rattle.std.proofs.lemmas.Result.{err_from_is_err_and}
use Rattle.uc_problem.proofs.Faulting.{kept_on, same_refusal}
use Rattle.uc_problem.proofs.Fetches.{one_passed, passed_here, failed_here}
use Rattle.uc_problem.proofs.fetch.fetch_first.Goals as goal

pub returns-in-Some-clause-first : goal.returns-in-Some-clause-first
returns-in-Some-clause-first g c =
    passed_here c.args.names.now c.loop-name.name-index c.name-item.result c.name-item.result c.loop-name-test.true c.name-item.is _ _ _ _ c.in-Some.bytes c.in_ok-copy.field-0 c.loop-name.invariant.passed
    (rw (c.loop-name.invariant.same, c.in-Some.is) at c.in_ok-bytes.ensures.answer) c.in_ok-copy.ensures

pub returns-in_err-bytes-clause-first : goal.returns-in_err-bytes-clause-first
returns-in_err-bytes-clause-first g c =
    let p = err_from_is_err_and c.from_residual.result c.from_residual.ensures.1 in
    rw (p.1, p.2) (failed_here c.args.names.now c.loop-name.name-index c.name-item.result c.name-item.result c.loop-name-test.true c.name-item.is _ _ _ _ c.in_err-bytes.field-0.0 c.loop-name.invariant.later c.loop-name.invariant.passed c.in_err-bytes.ensures.answer)

pub loop-name-preserved : goal.loop-name-preserved
loop-name-preserved g c = record {
  same = c.in_ok-bytes.ensures.same ∙ c.loop-name.invariant.same;
  later = omega (arith, c.in_ok-bytes.ensures.later, c.loop-name.invariant.later);
  counted = kept_on None _ _ c.loop-name.invariant.counted c.in_ok-bytes.ensures.counted;
  passed = one_passed c.args.names.now c.loop-name.name-index c.name-item.result c.name-item.result c.loop-name-test.true c.name-item.is _ _ _ c.loop-name.invariant.passed
      (rw (c.loop-name.invariant.same, c.in_default.is) at c.in_ok-bytes.ensures.answer);
}

pub returns-in_err-bytes-clause-counted : goal.returns-in_err-bytes-clause-counted
returns-in_err-bytes-clause-counted g c =
    let p = err_from_is_err_and c.from_residual.result c.from_residual.ensures.1 in
    rw (p.1, p.2) (same_refusal c.in_err-bytes.field-0.0 _ _ c.loop-name.invariant.counted c.in_err-bytes.ensures.counted)
