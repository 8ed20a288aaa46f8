use Rattle.std.proofs.lemmas.Result.{err_from_is_err_and}
use Rattle.uc_clause.proofs.grammar.draft.Draft.step.Goals as goal

pub returns-in_err-behind-clause-stops : goal.returns-in_err-behind-clause-stops
returns-in_err-behind-clause-stops c =
    let p = err_from_is_err_and c.from_residual.result c.from_residual.ensures.1 in
    rw (p.1, p.2) (c.in_err-behind.ensures.stops c.args.variables.now)

pub returns-in_ok-behind-clause-moves : goal.returns-in_ok-behind-clause-moves
returns-in_ok-behind-clause-moves c = c.in_ok-behind.ensures.moves c.args.variables.now
