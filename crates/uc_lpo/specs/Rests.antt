-- What is left of a comparison.
use Rattle.std.specs.Prelude.{◌↔◌, ℕ, ◌+◌, ◌<◌, ◌≤◌, IsTrue, true, false, List, length}
use Rattle.uc_term.specs.Flat.{tree_of, IsWhole}
use Rattle.uc_order.specs.VarOrders.{Classes, representative, IsHigher}
use Rattle.uc_lpo.specs.declared.compare.Rest.{Rest}
use Rattle.uc_lpo.specs.declared.compare.Rest.TheVariants.{Known, Pair}
use Rattle.uc_lpo.specs.PathOrder.{PathOrder}
use Rattle.uc_lpo.specs.Ranks.{rank_of}
use Rattle.uc_lpo.specs.Shown.{shown}

-- it comes out as whether this is so
abbrev pub Says : List ℕ → Classes → Rest → Type 0 → Type 0
Says ranks classes (Known b) P = IsTrue b ↔ P
Says ranks classes (Pair s t) P = PathOrder (rank_of ranks) (IsHigher classes) (shown (representative classes) (tree_of s.now)) (shown (representative classes) (tree_of t.now)) ↔ P

-- its terms are whole, and of fewer nodes together
abbrev pub IsWithin : ℕ → Rest → Type 0
IsWithin n (Known b) = Unit {0}
IsWithin n (Pair s t) = IsWhole s.now × IsWhole t.now × (0 < length s.now) × (0 < length t.now) × (length s.now ≤ 16777216) × (length t.now ≤ 16777216) × (length s.now + length t.now < n)

-- how many nodes are left
abbrev pub size : Rest → ℕ
size (Known b) = 0
size (Pair s t) = length s.now + length t.now

-- from what is left of the first arguments that differ to what is left of the terms, where R says that a later argument
-- of the left one reaches the right one, and E that the left one exceeds all later arguments of the right one
abbrev pub Goes : List ℕ → Classes → Rest → Rest → Type 0 → Type 0 → Type 0
Goes ranks classes (Known true) rest R E = Says ranks classes rest E
Goes ranks classes (Known false) rest R E = Says ranks classes rest R
Goes ranks classes (Pair s t) (Known true) R E = R
Goes ranks classes (Pair s t) (Known false) R E = (R → ⊥) × (E → ⊥)
Goes ranks classes (Pair s t) (Pair u v) R E = (R → ⊥) × E × Says ranks classes (Pair u v) (PathOrder (rank_of ranks) (IsHigher classes) (shown (representative classes) (tree_of s.now)) (shown (representative classes) (tree_of t.now)))
