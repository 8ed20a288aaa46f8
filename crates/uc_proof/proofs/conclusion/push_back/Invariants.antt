use Rattle.std.proofs.Common.{◌≡◌, ◌≤◌, ◌++◌, length, take}
use Rattle.uc_fact.specs.Chains.{steps_back}
use Rattle.uc_proof.proofs.conclusion.push_back.Given as goal

abbrev pub invariant-loop-number : goal.invariant-loop-number
invariant-loop-number l = (l.number ≤ length l.forth) × (l.steps.items ++ steps_back l.fn.start (take l.number l.forth) ≡ l.initial.steps.items ++ steps_back l.fn.start l.forth)

abbrev pub decreases-loop-number : goal.decreases-loop-number
decreases-loop-number l = l.number
