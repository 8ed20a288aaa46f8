use Rattle.std.proofs.Common.{drop, if◌then◌else◌}
use Rattle.uc_proof.specs.Parts.{is_clause, is_encoding, axioms_where}
use Rattle.uc_proof.specs.Making.{IsAmong}
use Rattle.uc_proof.proofs.Adding.{GoesOn}
use Rattle.uc_proof.proofs.plan.push_axioms.Given as goal

abbrev pub invariant-loop-number : goal.invariant-loop-number
invariant-loop-number l = GoesOn (λ p. IsAmong p l.fn.needed) (axioms_where (if l.fn.clauses then is_clause else is_encoding) 0 l.sources) l.initial.plan.items (axioms_where (if l.fn.clauses then is_clause else is_encoding) l.number (drop l.number l.sources)) l.plan.items
