use Rattle.std.proofs.Common.{ℕ, ◌<◌, ◌≤◌, ◌≡◌, IsTrue, false, slice_index}
use Rattle.uc_kbo.proofs.covers.has_each.Given as goal

abbrev pub invariant-loop-i : goal.invariant-loop-i
invariant-loop-i l = record {
  so_far : IsTrue l.all → (k : ℕ) → k < l.i → slice_index l.b.counts k ≤ slice_index l.a.counts k;
  some : l.all ≡ false → ((k : ℕ) → k < 32 → slice_index l.b.counts k ≤ slice_index l.a.counts k) → ⊥;
}
