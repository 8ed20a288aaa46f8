use Rattle.uc_check.proofs.Named.{Named}
use Rattle.uc_check.proofs.chain.are_named_by.Given as goal

abbrev pub invariant-loop-step : goal.invariant-loop-step
invariant-loop-step l = Named l.parents l.steps l.step-index l.named
