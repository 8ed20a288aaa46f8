use Rattle.std.proofs.Common.{subst}
use Rattle.uc_clause.specs.Rules as clause
use Rattle.uc_clause.specs.Terms as clauses
use Rattle.uc_fof.proofs.terms.halted.Goals as goal

pub stopped_at-requires-clause-stops : goal.stopped_at-requires-clause-stops
stopped_at-requires-clause-stops c = subst (clause.Stops (clauses.Term c.args.bytes.now c.args.tokens.now 0 c.args.from)) c.in-At.is c.requires.stops
