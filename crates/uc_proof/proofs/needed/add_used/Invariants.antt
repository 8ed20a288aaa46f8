use Rattle.std.proofs.Common.{◌≤◌, length, map}
use Rattle.uc_proof.proofs.Using.{Uses}
use Rattle.uc_proof.proofs.needed.add_used.Given as goal

abbrev pub invariant-loop-number : goal.invariant-loop-number
invariant-loop-number l = (l.number ≤ length l.facts) × Uses (map (λ f. f.now) l.facts) l.initial.needed l.number l.needed

abbrev pub decreases-loop-number : goal.decreases-loop-number
decreases-loop-number l = l.number
