use Rattle.std.proofs.Common.{map, drop}
use Rattle.uc_proof.specs.declared.part.Part.TheVariants as part
use Rattle.uc_proof.specs.Making.{IsAmong}
use Rattle.uc_proof.proofs.Adding.{GoesOn}
use Rattle.uc_proof.proofs.plan.push_denials.Given as goal

abbrev pub invariant-loop-clause : goal.invariant-loop-clause
invariant-loop-clause l = GoesOn (λ p. IsAmong p l.fn.needed) (map part.Denial l.goals) l.initial.plan.items (map part.Denial (drop l.clause-index l.goals)) l.plan.items
