use Rattle.std.proofs.Common.{◌≡◌, ◌-◌, ◌≤◌, ℕ, length, take, drop, false}
use Rattle.uc_clause.specs.Bytes.{ends_block}
use Rattle.uc_clause.proofs.quotes.block_end.Given as goal

abbrev pub invariant-loop-at : goal.invariant-loop-at
invariant-loop-at l = record {
  within : l.at ≤ length l.text;
  behind : (m : ℕ) → l.at ≤ m → ends_block (take m l.text) ≡ ends_block (take (m - l.at) (drop l.at l.text));
  before : (m : ℕ) → m ≤ l.at → ends_block (take m l.text) ≡ false;
}

abbrev pub decreases-loop-at : goal.decreases-loop-at
decreases-loop-at l = length l.text - l.at
