use Rattle.uc_proof.proofs.Using.{Denies}
use Rattle.uc_proof.proofs.needed.add_denied.Given as goal

abbrev pub invariant-loop-number : goal.invariant-loop-number
invariant-loop-number l = Denies l.sources l.initial.needed l.number l.needed
