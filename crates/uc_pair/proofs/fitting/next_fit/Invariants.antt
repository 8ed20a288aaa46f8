use Rattle.std.proofs.Common.{ℕ, ◌<◌, ◌≤◌}
use Rattle.uc_pair.specs.Fitting.{HasNoFit}
use Rattle.uc_pair.proofs.fitting.next_fit.Given as goal

abbrev pub invariant-loop-place : goal.invariant-loop-place
invariant-loop-place l = (p : ℕ) → l.from ≤ p → p < l.place → HasNoFit l.outer l.inner p
