use Rattle.std.proofs.Common.{◌↔◌, ◌⊎◌, drop}
use Rattle.uc_proof.specs.declared.part.Part.{Part}
use Rattle.uc_proof.specs.Making.{IsAmong, IsFactPart}
use Rattle.uc_proof.proofs.needed.add_facts.Given as goal

abbrev pub invariant-loop-number : goal.invariant-loop-number
invariant-loop-number l = (p : Part) → (IsAmong p l.needed ⊎ IsFactPart (drop l.number-index l.live) p) ↔ (IsAmong p l.initial.needed ⊎ IsFactPart l.live p)
