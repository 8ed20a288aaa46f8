use Rattle.std.proofs.Common.{take}
use Rattle.std.specs.List.{AllByRecursion}
use Rattle.uc_check.specs.declared.proof.LineStep.{LineStep}
use Rattle.uc_tstp.specs.Bounds.{IsBounded}
use Rattle.uc_certificate.proofs.bounds.see_steps.Given as goal

abbrev pub invariant-loop-step : goal.invariant-loop-step
invariant-loop-step l = AllByRecursion (λ (s : LineStep). IsBounded s.to) (take l.step-index l.steps)
