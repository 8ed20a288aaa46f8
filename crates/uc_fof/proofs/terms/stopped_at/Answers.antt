use Rattle.std.proofs.Common.{sym, subst}
use Rattle.uc_fof.specs.Rules.{Stops}
use Rattle.uc_fof.specs.Terms.{Term}
use Rattle.uc_fof.proofs.Reach.{reach, arrives}
use Rattle.uc_fof.proofs.terms.stopped_at.Goals as goal

pub reach_of-requires-clause-reaches : goal.reach_of-requires-clause-reaches
reach_of-requires-clause-reaches c = (reach c.args.bytes.now c.args.tokens.now c.requires.stops, arrives c.args.bytes.now c.args.tokens.now c.requires.stops)

pub returns-in-Err : goal.returns-in-Err
returns-in-Err c = subst (Stops (Term c.args.bytes.now c.args.tokens.now c.args.conjecture c.args.bound.now 0 c.args.from)) (sym c.in-Err.ensures.memory) tt
