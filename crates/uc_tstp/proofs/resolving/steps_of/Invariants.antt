use Rattle.uc_tstp.specs.Resolving.{ResolveSteps, steps_mention}
use Rattle.uc_tstp.proofs.Unknowns.{Ahead}
use Rattle.uc_tstp.proofs.resolving.steps_of.Given as goal

abbrev pub invariant-loop-draft : goal.invariant-loop-draft
invariant-loop-draft l = Ahead l.bytes l.tokens l.names (ResolveSteps l.bytes l.tokens l.names) steps_mention l.initial.draft-iterator.rest.items l.steps l.draft-iterator.rest.items
