use Rattle.std.proofs.Common.{Some, None}
use Rattle.std.proofs.lemmas.Result.{err_from_is_err_and}
use Rattle.uc_problem.proofs.Later.{Grows-refl}
use Rattle.uc_problem.proofs.Encodings.{is_encoded}
use Rattle.uc_problem.proofs.encoding.encode.Goals as goal

pub returns-in_err-fresh-clause-encoded : goal.returns-in_err-fresh-clause-encoded
returns-in_err-fresh-clause-encoded c =
    let p = err_from_is_err_and c.from_residual.result c.from_residual.ensures.1 in
    rw (p.1, p.2) c.in_err-fresh.ensures.marked

pub with_marks-requires-clause-small : goal.with_marks-requires-clause-small
with_marks-requires-clause-small c = (rw c.in-Some.is at c.in_ok-fresh.ensures.marked c.marks.new.symbols (Grows-refl c.marks.new.symbols)).1

pub returns-in_ok-with_marks-in-Some-clause-encoded : goal.returns-in_ok-with_marks-in-Some-clause-encoded
returns-in_ok-with_marks-in-Some-clause-encoded c = is_encoded c.marks.new.symbols c.args.problem.now (Some c.in-Some.fresh) c.in_ok-with_marks-in-Some.field-0 (rw c.in-Some.is at c.in_ok-fresh.ensures.marked) c.in_ok-with_marks-in-Some.ensures

pub returns-in_ok-as_it_is-in-None-clause-encoded : goal.returns-in_ok-as_it_is-in-None-clause-encoded
returns-in_ok-as_it_is-in-None-clause-encoded c = is_encoded c.marks.new.symbols c.args.problem.now None c.in_ok-as_it_is-in-None.field-0 (rw c.in-None.is at c.in_ok-fresh.ensures.marked) c.in_ok-as_it_is-in-None.ensures
