use Rattle.std.proofs.Common.{◌≡◌, ap, ◌∙◌}
use Rattle.std.proofs.lemmas.Result.{err_from_is_err_and}
use Rattle.uc_problem.specs.Conjecture.{AreConstants, closed_all}
use Rattle.uc_problem.specs.Assembly.{lacks_memory}
use Rattle.uc_problem.proofs.ClosedTerms.{closed_sound_few}
use Rattle.uc_problem.proofs.ConstantNames.{named_constants}
use Rattle.uc_problem.proofs.closing.close.Goals as goal

pub returns-in_err-constants-clause-refused : goal.returns-in_err-constants-clause-refused
returns-in_err-constants-clause-refused c =
    let p = err_from_is_err_and c.from_residual-in_err-constants.result c.from_residual-in_err-constants.ensures.1 in
    rw (p.1, p.2) lacks_memory

pub returns-in_err-clauses-clause-refused : goal.returns-in_err-clauses-clause-refused
returns-in_err-clauses-clause-refused c =
    let p = err_from_is_err_and c.from_residual-in_err-clauses.result c.from_residual-in_err-clauses.ensures.1 in
    rw (p.1, p.2) lacks_memory

pub returns-clause-closed : goal.returns-clause-closed
returns-clause-closed c = record {
  closed = record {
    one = rw (c.as_slice.ensures) at c.in_ok-conjecture.ensures.one;
    constants = c.in_ok-constants.constants.items;
    are = rw (c.as_slice-2.ensures) at c.in_ok-constants.ensures.are;
    clauses_are = c.in_ok-clauses.ensures ∙ ap (λ cs. closed_all cs c.args.flats) c.as_slice-3.ensures.value;
    conjecture_is = rw (c.as_slice.ensures) at c.in_ok-conjecture.ensures.is;
  };
  adds = c.in_ok-constants.ensures.adds;
}

pub returns-clause-sound : goal.returns-clause-sound
returns-clause-sound c =
    let new = c.constants_of.new.symbols in
    let constants = c.in_ok-constants.constants.items in
    let are : AreConstants new c.args.flats constants = rw (c.as_slice-2.ensures) at c.in_ok-constants.ensures.are in
    let closed : c.in_ok-clauses.clauses ≡ closed_all constants c.args.flats = c.in_ok-clauses.ensures ∙ ap (λ cs. closed_all cs c.args.flats) c.as_slice-3.ensures.value in
    rw (closed) (closed_sound_few new constants (named_constants new _ are.named) c.args.symbols.now c.in_ok-constants.ensures.grows c.args.flats c.requires)
