use Rattle.std.proofs.Common.{◌≡◌, ◌≤◌, ℕ, List, length, drop, map}
use Rattle.uc_ordering.specs.Numbers.{number_in}
use Rattle.uc_ordering.specs.Weights.{weight_given}
use Rattle.uc_ordering.proofs.Again.{Found}
use Rattle.uc_ordering.proofs.options.put_weights.Given as goal

abbrev pub invariant-loop-place : goal.invariant-loop-place
invariant-loop-place l = (l.place ≤ length l.weights) × ((name : List ℕ) → number_in l.given.map.entries name ≡ weight_given (drop l.place l.weights) name) × Found (map (λ p. p.0) l.weights) l.place l.again

abbrev pub decreases-loop-place : goal.decreases-loop-place
decreases-loop-place l = l.place
