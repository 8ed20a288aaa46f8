use Rattle.uc_task.proofs.Reversing.{Back}
use Rattle.uc_task.proofs.chains.reversed.Given as goal

abbrev pub invariant-loop-step : goal.invariant-loop-step
invariant-loop-step l =
    goal.iterator-loop-step.can_next l.step-iterator ×
    goal.iterator-loop-step.is_finite l.step-iterator ×
    Back l.fn.chain.start l.fn.chain.steps l.last l.step-iterator.rest.items l.steps.items
