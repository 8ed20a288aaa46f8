use Rattle.std.proofs.lemmas.Result.{err_from_is_err_and}
use Rattle.uc_ordering.specs.Choice.{weighed_names}
use Rattle.uc_ordering.proofs.Choosing.{none_lacking, lacking_left, lacking_right}
use Rattle.uc_ordering.proofs.options.known_symbols.Goals as goal

pub returns-in_err-named-clause-err : goal.returns-in_err-named-clause-err
returns-in_err-named-clause-err c =
    let p = err_from_is_err_and c.from_residual.result c.from_residual.ensures.1 in
    rw (p.1, p.2) (lacking_left c.args.by_name.now.map.entries c.args.words.now.precedence (weighed_names c.args.words.now) c.in_err-named.field-0.0 (rw c.as_slice.ensures at c.in_err-named.ensures.err))

pub returns-in_err-check_known-clause-err : goal.returns-in_err-check_known-clause-err
returns-in_err-check_known-clause-err c =
    let p = err_from_is_err_and c.from_residual-in_err-check_known.result c.from_residual-in_err-check_known.ensures.1 in
    rw (p.1, p.2) (lacking_right c.args.by_name.now.map.entries c.args.words.now.precedence (weighed_names c.args.words.now) c.in_err-check_known.field-0.0 (rw c.as_slice.ensures at c.in_ok-named.ensures.known) (rw c.as_slice-2.ensures at c.in_err-check_known.ensures.err))

pub returns-clause-known : goal.returns-clause-known
returns-clause-known c = none_lacking c.args.by_name.now.map.entries c.args.words.now.precedence (weighed_names c.args.words.now) (rw c.as_slice.ensures at c.in_ok-named.ensures.known) (rw c.as_slice-2.ensures at c.in_ok-check_known.ensures.known)
