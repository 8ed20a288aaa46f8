use Rattle.std.proofs.Common.{◌≡◌, take}
use Rattle.uc_term.specs.Variables.{firsts}
use Rattle.uc_proof.proofs.Writing.{bys}
use Rattle.uc_proof.proofs.steps.parents.Given as goal

abbrev pub invariant-loop-step : goal.invariant-loop-step
invariant-loop-step l = l.seen.keys ≡ firsts (bys (take l.step-index l.steps))
