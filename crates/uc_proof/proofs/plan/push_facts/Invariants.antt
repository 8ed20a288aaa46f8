use Rattle.std.proofs.Common.{◌-◌}
use Rattle.uc_proof.specs.Parts.{facts_from}
use Rattle.uc_proof.specs.Making.{IsAmong}
use Rattle.uc_proof.proofs.Adding.{GoesOn}
use Rattle.uc_proof.proofs.plan.push_facts.Given as goal

abbrev pub invariant-loop-number : goal.invariant-loop-number
invariant-loop-number l = GoesOn (λ p. IsAmong p l.fn.needed) (facts_from 0 l.count) l.initial.plan.items (facts_from l.number (l.count - l.number)) l.plan.items
