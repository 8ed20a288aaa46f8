use Rattle.std.proofs.Common.{◌↔◌, ◌⊎◌, drop}
use Rattle.uc_proof.specs.declared.part.Part.{Part}
use Rattle.uc_proof.specs.Making.{IsAmong, IsNamedPart}
use Rattle.uc_proof.proofs.needed.add_named.Given as goal

abbrev pub invariant-loop-step : goal.invariant-loop-step
invariant-loop-step l = (p : Part) → (IsAmong p l.needed ⊎ IsNamedPart (drop l.step-index l.steps) p) ↔ (IsAmong p l.initial.needed ⊎ IsNamedPart l.steps p)
