use Rattle.std.proofs.Common.{drop}
use Rattle.uc_tstp.specs.Meaning.{AreNamed}
use Rattle.uc_tstp.proofs.Unknowns.{Ahead}
use Rattle.uc_tstp.proofs.resolving.parents_of.Given as goal

abbrev pub invariant-loop-token : goal.invariant-loop-token
invariant-loop-token l = Ahead l.bytes l.tokens l.names (AreNamed l.bytes l.tokens l.names) (λ ks. ks) l.parents l.numbers (drop l.token-index l.parents)
