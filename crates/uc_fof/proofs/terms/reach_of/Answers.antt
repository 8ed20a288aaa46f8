use Rattle.std.proofs.Common.{sym, subst}
use Rattle.uc_fof.specs.Given.{Reaches}
use Rattle.uc_fof.proofs.FullArgs.{reaches_itself}
use Rattle.uc_fof.proofs.terms.reach_of.Goals as goal

pub last_comma-requires-clause-full : goal.last_comma-requires-clause-full
last_comma-requires-clause-full c =
    let r = c.requires.reaches in
    let at_arity = subst (λ w. Reaches c.args.bytes.now c.args.tokens.now w c.args.at r.0) c.in-Arity.is r.1 in
    (at_arity.0, r.0, at_arity.1)

pub returns-in_default-clause-reaches : goal.returns-in_default-clause-reaches
returns-in_default-clause-reaches c = reaches_itself c.args.bytes.now c.args.tokens.now c.args.why c.args.at c.in_default.not-Arity
