use Rattle.std.proofs.Common.{ℕ, ◌≡◌, ◌≤◌, ◌*◌, ◌-◌, drop, sum}
use Rattle.uc_kbo.proofs.covers.has_from.Given as goal

abbrev pub invariant-loop-at : goal.invariant-loop-at
invariant-loop-at l = record {
  within : l.at ≤ 32;
  ours : l.ours ≡ sum (drop l.at l.a.counts);
  theirs : l.theirs ≡ sum (drop l.at l.b.counts);
  ours_small : l.ours ≤ 4294967295 * (32 - l.at);
  theirs_small : l.theirs ≤ 4294967295 * (32 - l.at);
  so_far : (k : ℕ) → l.at ≤ k → k ≤ 32 → sum (drop k l.b.counts) ≤ sum (drop k l.a.counts);
}

abbrev pub decreases-loop-at : goal.decreases-loop-at
decreases-loop-at l = l.at
