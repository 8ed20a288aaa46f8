use Rattle.uc_proof.proofs.Naming.{NumberedSteps}
use Rattle.uc_proof.proofs.renumbering.number_steps.Given as goal

abbrev pub invariant-loop-step : goal.invariant-loop-step
invariant-loop-step l = NumberedSteps l.steps l.initial.names.keys l.names.keys l.step-index l.numbered.items
