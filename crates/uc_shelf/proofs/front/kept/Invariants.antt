use Rattle.std.proofs.Common.{◌≡◌, ℕ, ◌+◌, ◌^◌, ◌≤◌, take, drop, length}
use Rattle.uc_shelf.specs.Segments.{Falls, sizes_of, entries_of}
use Rattle.uc_shelf.proofs.front.kept.Given as goal

abbrev pub invariant-loop-keep : goal.invariant-loop-keep
invariant-loop-keep l = record {
  within : l.keep ≤ length l.segments;
  small : l.size ≤ 2 ^ 31;
  falls : (j : ℕ) × (l.size ≡ 2 ^ j) × Falls 32 j (sizes_of (take l.keep l.segments)) × (length (entries_of (drop l.keep l.segments)) + 1 ≡ l.size);
}

abbrev pub decreases-loop-keep : goal.decreases-loop-keep
decreases-loop-keep l = l.keep
