use Rattle.std.proofs.Common.{sym, ◌∙◌}
use Rattle.std.proofs.lemmas.Result.{err_from_is_err_and}
use Rattle.uc_problem.specs.Assembly.{lacks_memory}
use Rattle.uc_problem.proofs.SingleConjecture.{second_clause}
use Rattle.uc_problem.proofs.closing.only_conjecture.Goals as goal

pub returns-in_err-copy-clause-refused : goal.returns-in_err-copy-clause-refused
returns-in_err-copy-clause-refused c =
    let p = err_from_is_err_and c.from_residual.result c.from_residual.ensures.1 in
    rw (p.1, p.2) lacks_memory

pub returns-in_err-from_bytes-clause-refused : goal.returns-in_err-from_bytes-clause-refused
returns-in_err-from_bytes-clause-refused c =
    let p = err_from_is_err_and c.from_residual-in_err-from_bytes.result c.from_residual-in_err-from_bytes.ensures.1 in
    rw (p.1, p.2) lacks_memory

pub returns-then-is_some-clause-refused : goal.returns-then-is_some-clause-refused
returns-then-is_some-clause-refused c =
    second_clause c.args.flats.now c.loop-number.number c.loop-number-test.true c.index-flats-number.result c.index-flats-number.is c.in-Some.place c.loop-number.first c.in_ok-copy.field-0 c.in_ok-from_bytes.field-0 c.in-Some.is (sym c.is_some.ensures ∙ c.if-is_some.true)
    c.loop-number.invariant c.in_ok-copy.ensures c.in_ok-from_bytes.ensures
