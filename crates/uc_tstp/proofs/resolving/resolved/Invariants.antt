use Rattle.uc_tstp.specs.Resolving.{ResolveLines, lines_mention}
use Rattle.uc_tstp.proofs.Unknowns.{Ahead}
use Rattle.uc_tstp.proofs.resolving.resolved.Given as goal

abbrev pub invariant-loop-draft : goal.invariant-loop-draft
invariant-loop-draft l = Ahead l.bytes l.tokens l.names (ResolveLines l.bytes l.tokens l.names) lines_mention l.initial.draft-iterator.rest.items l.lines l.draft-iterator.rest.items
