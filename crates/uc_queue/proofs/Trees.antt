-- Nodes above a leaf, and what a right tree's winners are.
use Rattle.std.proofs.Common.{◌≡◌, ℕ, zero, suc, ◌+◌, ◌-◌, ◌*◌, ◌/◌, ◌<◌, ◌≤◌, ◌≢◌, List, length, refl, ap, ◌∙◌, arith, inl, inr, subst}
use Rattle.std.specs.Prelude.{◌⊎◌}
use Rattle.std.specs.List.{slice_get}
use Rattle.std.proofs.lemmas.Bool.{cases_Bool, cases_order, cases_lt}
use Rattle.std.proofs.lemmas.Bool.Decides.{nat_tests}
use Rattle.uc_queue.specs.declared.entry.Entry.{Entry}
use Rattle.uc_queue.specs.declared.entry.Key.{Key}
use Rattle.uc_queue.specs.Trees.{loses, better, winner_at, IsRightAt, IsRight, WasRight}

-- node i is node k or lies above it
pub data IsAbove (i : ℕ) : ℕ → Type 0 where
  itself : {k : ℕ} → k ≡ i → IsAbove i k
  over : {k : ℕ} → IsAbove i (k / 2) → IsAbove i k

pub above_le : (i k : ℕ) → IsAbove i k → i ≤ k
above_le i k (itself e) = omega arith
above_le i k (over p) = let le : i ≤ k / 2 = above_le i (k / 2) p in omega arith

pub parent_above : (j k : ℕ) → IsAbove j k → IsAbove (j / 2) k
parent_above j k (itself e) = over (itself (ap (λ (n : ℕ). n / 2) e))
parent_above j k (over p) = over (parent_above j (k / 2) p)

pub left_above : (i k : ℕ) → IsAbove (2 * i) k → IsAbove i k
left_above i k p = let e : (2 * i) / 2 ≡ i = omega arith in subst (λ n. IsAbove n k) e (parent_above (2 * i) k p)

pub right_above : (i k : ℕ) → IsAbove (2 * i + 1) k → IsAbove i k
right_above i k p = let e : (2 * i + 1) / 2 ≡ i = omega arith in subst (λ n. IsAbove n k) e (parent_above (2 * i + 1) k p)

one_way : (i j k : ℕ) → IsAbove i k → IsAbove j k → IsAbove i j ⊎ IsAbove j i
one_way i j k (itself e) q = inr (subst (λ n. IsAbove j n) e q)
one_way i j k (over p) (itself e) = inl (subst (λ n. IsAbove i n) e (over p))
one_way i j k (over p) (over q) = one_way i j (k / 2) p q

not_under_left : (p : ℕ) → 0 < p → IsAbove (2 * p) (2 * p + 1) → ⊥
not_under_left p l (itself e) = omega arith
not_under_left p l (over q) = let le : 2 * p ≤ (2 * p + 1) / 2 = above_le (2 * p) ((2 * p + 1) / 2) q in omega arith

not_under_right : (p : ℕ) → 0 < p → IsAbove (2 * p + 1) (2 * p) → ⊥
not_under_right p l (itself e) = omega arith
not_under_right p l (over q) = let le : 2 * p + 1 ≤ (2 * p) / 2 = above_le (2 * p + 1) ((2 * p) / 2) q in omega arith

-- no node lies below both children of another
pub one_child : (p k : ℕ) → 0 < p → IsAbove (2 * p) k → IsAbove (2 * p + 1) k → ⊥
one_child p k l a b = elim (one_way (2 * p) (2 * p + 1) k a b) [ inl x ↦ not_under_left p l x | inr x ↦ not_under_right p l x ]

pub same_or_not : (a b : ℕ) → (a ≡ b) ⊎ (a ≢ b)
same_or_not a b = elim (cases_order a b) [ inl e ↦ inl e | inr h ↦ inr (λ e. elim h [ inl x ↦ absurd (omega arith) | inr x ↦ absurd (omega arith) ]) ]

pub leaf : (ws : List ℕ) (k : ℕ) → length ws ≤ k → winner_at ws k ≡ k - length ws
leaf ws k h = grind (arith, nat_tests)

pub better_one : (key : Key) (es : List Entry) (a b : ℕ) → (better key es a b ≡ a) ⊎ (better key es a b ≡ b)
better_one key es a b = elim (cases_Bool (loses key (slice_get es a) (slice_get es b))) [ inl h ↦ inr (rw h refl) | inr h ↦ inl (rw h refl) ]

-- the winner at a node stands at a leaf below it
pub winner_below : (key : Key) (es : List Entry) (ws : List ℕ) → IsRight key es ws → (f k : ℕ) → 2 * length ws ≤ k + f → 0 < k → k < 2 * length ws → IsAbove k (length ws + winner_at ws k)
winner_below key es ws r zero k e l h = absurd (omega arith)
winner_below key es ws r (suc f) k e l h = elim (cases_lt k (length ws)) [
  | inl x ↦ elim (better_one key es (winner_at ws (2 * k)) (winner_at ws (2 * k + 1))) [
    | inl t ↦ rw (r k l x, t) (left_above k (length ws + winner_at ws (2 * k)) (winner_below key es ws r f (2 * k) (omega arith) (omega arith) (omega arith)))
    | inr t ↦ rw (r k l x, t) (right_above k (length ws + winner_at ws (2 * k + 1)) (winner_below key es ws r f (2 * k + 1) (omega arith) (omega arith) (omega arith)))
  ]
  | inr x ↦ let same : winner_at ws k ≡ k - length ws = leaf ws k x in itself (omega arith)
]

pub won_by : (key : Key) (es : List Entry) (ws : List ℕ) → IsRight key es ws → (slot k : ℕ) → 0 < k → k < 2 * length ws → winner_at ws k ≡ slot → IsAbove k (length ws + slot)
won_by key es ws r slot k l h e = subst (λ n. IsAbove k (length ws + n)) e (winner_below key es ws r (2 * length ws) k (omega arith) l h)

-- where neither child's winner is the changed entry, a node stays right
pub stays_right : (key : Key) (es former : List Entry) (slot a b : ℕ) → ((k : ℕ) → k ≢ slot → slice_get es k ≡ slice_get former k) → a ≢ slot → b ≢ slot → better key former a b ≡ better key es a b
stays_right key es former slot a b same x y = rw (same a x, same b y) refl

-- after a change of one entry only nodes above its leaf may be wrong
pub wrong_above : (key : Key) (es : List Entry) (ws : List ℕ) (slot : ℕ) (w : WasRight key es ws slot) → (i : ℕ) → 0 < i → i < length ws → IsRightAt key es ws i ⊎ IsAbove i (length ws + slot)
wrong_above key es ws slot w i l h = elim (same_or_not (winner_at ws (2 * i)) slot) [
  | inl e ↦ inr (left_above i (length ws + slot) (won_by key w.former ws w.right slot (2 * i) (omega arith) (omega arith) e))
  | inr x ↦ elim (same_or_not (winner_at ws (2 * i + 1)) slot) [
    | inl e ↦ inr (right_above i (length ws + slot) (won_by key w.former ws w.right slot (2 * i + 1) (omega arith) (omega arith) e))
    | inr y ↦ inl (w.right i l h ∙ stays_right key es w.former slot (winner_at ws (2 * i)) (winner_at ws (2 * i + 1)) w.others x y)
  ]
]
