use Rattle.std.proofs.lemmas.Result.{err_from_is_err_and}
use Rattle.uc_ordering.specs.Choice.{first_again, weighed_names}
use Rattle.uc_ordering.proofs.Choosing.{none_again, again_left, again_right}
use Rattle.uc_ordering.proofs.options.names_once.Goals as goal

pub returns-in_err-names-clause-err : goal.returns-in_err-names-clause-err
returns-in_err-names-clause-err c =
    let p = err_from_is_err_and c.from_residual.result c.from_residual.ensures.1 in
    rw (p.1, p.2) (again_left (first_again c.args.words.now.precedence) (first_again (weighed_names c.args.words.now)) c.in_err-names.field-0.0 (rw c.as_slice.ensures at c.in_err-names.ensures.err))

pub returns-in_err-given-clause-err : goal.returns-in_err-given-clause-err
returns-in_err-given-clause-err c =
    let p = err_from_is_err_and c.from_residual-in_err-given.result c.from_residual-in_err-given.ensures.1 in
    rw (p.1, p.2) (again_right (first_again c.args.words.now.precedence) (first_again (weighed_names c.args.words.now)) c.in_err-given.field-0.0 (rw c.as_slice.ensures at c.in_ok-names.ensures.once) (rw c.as_slice-2.ensures at c.in_err-given.ensures.err))

pub returns-clause-names : goal.returns-clause-names
returns-clause-names c = rw c.as_slice.ensures at c.in_ok-names.ensures.ok

pub returns-clause-given : goal.returns-clause-given
returns-clause-given c = rw c.as_slice-2.ensures at c.in_ok-given.ensures.ok

pub returns-clause-once : goal.returns-clause-once
returns-clause-once c = none_again (first_again c.args.words.now.precedence) (first_again (weighed_names c.args.words.now)) (rw c.as_slice.ensures at c.in_ok-names.ensures.once) (rw c.as_slice-2.ensures at c.in_ok-given.ensures.once)
