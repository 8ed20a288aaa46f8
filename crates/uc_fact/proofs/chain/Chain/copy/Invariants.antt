use Rattle.std.proofs.Common.{◌≡◌, take}
use Rattle.uc_fact.proofs.chain.Chain.copy.Given as goal

abbrev pub invariant-loop-step : goal.invariant-loop-step
invariant-loop-step l = l.steps.items ≡ take l.step-index l.self.steps
