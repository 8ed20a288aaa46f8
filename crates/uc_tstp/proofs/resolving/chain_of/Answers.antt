use Rattle.std.proofs.lemmas.Result.{err_from_is_err_and}
use Rattle.uc_tstp.specs.Resolving.{steps_mention}
use Rattle.uc_tstp.proofs.Unknowns.{lacks_first}
use Rattle.uc_tstp.proofs.Resolved.{lacks_parents}
use Rattle.uc_tstp.proofs.resolving.chain_of.Goals as goal

pub returns-in_err-steps-clause-lacks : goal.returns-in_err-steps-clause-lacks
returns-in_err-steps-clause-lacks c =
    let p = err_from_is_err_and c.from_residual.result c.from_residual.ensures.1 in
    rw (p.1, p.2) (lacks_first c.args.bytes.now c.args.tokens.now c.args.names.now (steps_mention c.args.steps) c.args.parents c.in_err-steps.field-0.0 c.in_err-steps.ensures.lacks)

pub returns-in_err-parents-clause-lacks : goal.returns-in_err-parents-clause-lacks
returns-in_err-parents-clause-lacks c =
    let p = err_from_is_err_and c.from_residual-in_err-parents.result c.from_residual-in_err-parents.ensures.1 in
    rw (p.1, p.2) (lacks_parents c.args.bytes.now c.args.tokens.now c.args.names.now c.args.steps c.in_ok-steps.steps c.args.parents c.in_err-parents.field-0.0 c.in_ok-steps.ensures.resolve (rw c.as_slice.ensures at c.in_err-parents.ensures.lacks))
