use Rattle.std.proofs.Common.{ℕ, ◌<◌, ◌≤◌, ◌+◌, ◌-◌, length, count_by, true}
use Rattle.uc_kbo.specs.Kbo.{is_from}
use Rattle.uc_kbo.specs.Runs.{is_counted, read_by}
use Rattle.uc_kbo.proofs.covers.has_all_classes.Given as goal

abbrev pub invariant-loop-k : goal.invariant-loop-k
invariant-loop-k l = (j : ℕ) → j < l.k → count_by (is_counted (is_from l.classes j)) (read_by true l.classes l.t) ≤ count_by (is_counted (is_from l.classes j)) (read_by true l.classes l.s)

abbrev pub decreases-loop-k : goal.decreases-loop-k
decreases-loop-k l = length l.classes + 1 - l.k
