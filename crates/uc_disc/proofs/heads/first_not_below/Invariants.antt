use Rattle.std.proofs.Common.{◌≡◌, ◌-◌, ◌<◌, ◌≤◌, ℕ, Some, length}
use Rattle.std.specs.Prelude.{slice_get}
use Rattle.uc_disc.specs.declared.heads.Head.{Head}
use Rattle.uc_disc.proofs.heads.first_not_below.Given as goal

abbrev pub invariant-loop-low : goal.invariant-loop-low
invariant-loop-low l = (l.low ≤ l.high) × (l.high ≤ length l.heads) × ((j : ℕ) (h : Head) → j < l.low → slice_get l.heads j ≡ Some h → h.symbol < l.symbol) × ((j : ℕ) (h : Head) → l.high ≤ j → slice_get l.heads j ≡ Some h → l.symbol ≤ h.symbol)

abbrev pub decreases-loop-low : goal.decreases-loop-low
decreases-loop-low l = l.high - l.low
