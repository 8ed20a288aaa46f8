use Rattle.uc_proof.proofs.Writing.{Writing}
use Rattle.uc_proof.proofs.steps.line_steps.Given as goal

abbrev pub invariant-loop-step : goal.invariant-loop-step
invariant-loop-step l = Writing l.fn.plan l.fn.chain.start l.steps l.before l.step-index l.written.items
