use Rattle.std.proofs.Common.{◌≡◌, ◌≤◌, ◌<◌, ℕ, true}
use Rattle.uc_problem.specs.NameSets.{has_text}
use Rattle.uc_problem.specs.Conjecture.{constant_name}
use Rattle.uc_problem.proofs.closing.next_free.Given as goal

abbrev pub invariant-loop-number : goal.invariant-loop-number
invariant-loop-number l = (k : ℕ) → l.from ≤ k → k < l.number → has_text l.names.keys (constant_name k) ≡ true
