-- The steps of building a tree and of mending it after a change of one entry.
use Rattle.std.proofs.Common.{◌≡◌, ℕ, ◌+◌, ◌*◌, ◌/◌, ◌<◌, ◌≤◌, ◌≢◌, List, length, refl, sym, ◌∙◌, arith, inl, inr, subst, slice_set, get_or}
use Rattle.std.specs.Prelude.{◌⊎◌}
use Rattle.std.proofs.lemmas.Bool.{cases_lt}
use Rattle.std.proofs.lemmas.Bool.Decides.{nat_tests}
use Rattle.std.proofs.lemmas.Grind.{common_steps}
use Rattle.std.proofs.lemmas.List.{length-set}
use Rattle.uc_queue.specs.declared.entry.Entry.{Entry}
use Rattle.uc_queue.specs.declared.entry.Key.{Key}
use Rattle.uc_queue.specs.Trees.{better, winner_at, IsRightAt, IsRight, WasRight}
use Rattle.uc_queue.proofs.Trees.{IsAbove, above_le, parent_above, one_child, same_or_not, better_one, won_by, stays_right, wrong_above}

-- a write at an inner node changes the winner there
pub written : (ws : List ℕ) (node w : ℕ) → node < length ws → winner_at (slice_set ws node w) node ≡ w
written ws node w h = grind (arith, nat_tests, common_steps)

-- and no other
pub unwritten : (ws : List ℕ) (node w k : ℕ) → k ≢ node → winner_at (slice_set ws node w) k ≡ winner_at ws k
unwritten ws node w k h = elim (cases_lt k (length ws)) [ inl x ↦ grind (arith, nat_tests, common_steps) | inr x ↦ grind (arith, nat_tests, common_steps) ]

pub inner : (ws : List ℕ) (node : ℕ) → node < length ws → winner_at ws node ≡ get_or ws node 0
inner ws node h = grind (arith, nat_tests)

-- a node that is written right is right
pub settled : (key : Key) (es : List Entry) (ws : List ℕ) (node w : ℕ) → 0 < node → node < length ws → w ≡ better key es (winner_at ws (2 * node)) (winner_at ws (2 * node + 1)) → IsRightAt key es (slice_set ws node w) node
settled key es ws node w l h e =
    let x : 2 * node ≢ node = omega arith in
    let y : 2 * node + 1 ≢ node = omega arith in
    rw (written ws node w h, unwritten ws node w (2 * node) x, unwritten ws node w (2 * node + 1) y) e

-- one that lies elsewhere stays right
pub unsettled : (key : Key) (es : List Entry) (ws : List ℕ) (node w i : ℕ) → i ≢ node → 2 * i ≢ node → 2 * i + 1 ≢ node → IsRightAt key es ws i → IsRightAt key es (slice_set ws node w) i
unsettled key es ws node w i x y z e = rw (unwritten ws node w i x, unwritten ws node w (2 * i) y, unwritten ws node w (2 * i + 1) z) e

-- a tree that is right from a node on
pub record IsBuilt (key : Key) (es : List Entry) (start ws : List ℕ) (node : ℕ) : Type 0 where
  pub len : length ws ≡ length start
  pub within : node ≤ length ws
  pub right : (i : ℕ) → node ≤ i → 0 < i → i < length ws → IsRightAt key es ws i

pub built_more : (key : Key) (es : List Entry) (start ws : List ℕ) (node w : ℕ) → IsBuilt key es start ws (node + 1) → 0 < node → w ≡ better key es (winner_at ws (2 * node)) (winner_at ws (2 * node + 1)) → IsBuilt key es start (slice_set ws node w) node
built_more key es start ws node w b l e = record {
  len = simp length-set b.len;
  within = simp length-set (let h : node + 1 ≤ length ws = b.within in omega arith);
  right = λ i g p h. (let h' : i < length ws = simp length-set at h in let n : node + 1 ≤ length ws = b.within in elim (same_or_not i node) as (λ _. IsRightAt key es (slice_set ws node w) i) [
    | inl x ↦ subst (λ k. IsRightAt key es (slice_set ws node w) k) (sym x) (settled key es ws node w l (omega arith) e)
    | inr x ↦ unsettled key es ws node w i x (omega arith) (omega arith) (b.right i (omega arith) p h')
  ]);
}

-- a tree on its way to be right for these entries: only nodes above this one may be wrong
pub record IsMended (key : Key) (es : List Entry) (start ws : List ℕ) (slot node : ℕ) : Type 0 where
  pub len : length ws ≡ length start
  pub within : node < length ws
  pub on_way : IsAbove node (length ws + slot)
  pub right : (i : ℕ) → 0 < i → i < length ws → IsRightAt key es ws i ⊎ IsAbove i node
  pub same : (k : ℕ) → k < 2 * node → winner_at ws k ≡ winner_at start k

pub first_step : (key : Key) (es : List Entry) (ws : List ℕ) (slot : ℕ) → WasRight key es ws slot → slot < length ws → IsMended key es ws ws slot ((length ws + slot) / 2)
first_step key es ws slot w h = record {
  len = refl;
  within = omega arith;
  on_way = IsAbove.over (IsAbove.itself refl);
  right = λ i l g. (elim (wrong_above key es ws slot w i l g) as (λ _. IsRightAt key es ws i ⊎ IsAbove i ((length ws + slot) / 2)) [
    | inl x ↦ inl x
    | inr x ↦ inr (below_leaf i x (omega arith))
  ]);
  same = λ k l. refl;
}
  where
    below_leaf : (i : ℕ) → IsAbove i (length ws + slot) → i < length ws + slot → IsAbove i ((length ws + slot) / 2)
    below_leaf i (IsAbove.itself e) l = absurd (omega arith)
    below_leaf i (IsAbove.over p) l = p

pub next_step : (key : Key) (es : List Entry) (start ws : List ℕ) (slot node w : ℕ) → IsMended key es start ws slot node → 0 < node → w ≡ better key es (winner_at ws (2 * node)) (winner_at ws (2 * node + 1)) → IsMended key es start (slice_set ws node w) slot (node / 2)
next_step key es start ws slot node w m l e = record {
  len = simp length-set m.len;
  within = simp length-set (let h : node < length ws = m.within in omega arith);
  on_way = simp length-set (parent_above node (length ws + slot) m.on_way);
  right = λ i p h. (let h' : i < length ws = simp length-set at h in elim (same_or_not i node) as (λ _. IsRightAt key es (slice_set ws node w) i ⊎ IsAbove i (node / 2)) [
    | inl x ↦ inl (subst (λ k. IsRightAt key es (slice_set ws node w) k) (sym x) (settled key es ws node w l m.within e))
    | inr x ↦ elsewhere i x (m.right i p h')
  ]);
  same = λ k h. (let x : k ≢ node = omega arith in unwritten ws node w k x ∙ m.same k (omega arith));
}
  where
    elsewhere : (i : ℕ) → i ≢ node → IsRightAt key es ws i ⊎ IsAbove i node → IsRightAt key es (slice_set ws node w) i ⊎ IsAbove i (node / 2)
    elsewhere i x (inr (IsAbove.itself e)) = absurd (x (sym e))
    elsewhere i x (inr (IsAbove.over p)) = inr p
    elsewhere i x (inl r) = elim (same_or_not (2 * i) node) [
      | inl y ↦ inr (IsAbove.itself (let z : node / 2 ≡ i = omega arith in z))
      | inr y ↦ elim (same_or_not (2 * i + 1) node) [
        | inl z ↦ inr (IsAbove.itself (let a : node / 2 ≡ i = omega arith in a))
        | inr z ↦ inl (unsettled key es ws node w i x y z r)
      ]
    ]

-- at the top nothing is above
pub last_step : (key : Key) (es : List Entry) (start ws : List ℕ) (slot node : ℕ) → IsMended key es start ws slot node → node ≤ 0 → IsRight key es ws
last_step key es start ws slot node m z i l h = elim (m.right i l h) as (λ _. IsRightAt key es ws i) [
  | inl r ↦ r
  | inr p ↦ let le : i ≤ node = above_le i node p in absurd (omega arith)
]

-- where one child's winner isn't the changed entry, and the child lies above that entry's leaf, the other's isn't either
pub neither : (key : Key) (es : List Entry) (ws : List ℕ) (slot a p : ℕ) → IsRight key es ws → 0 < p → p < length ws → p ≡ a / 2 → IsAbove a (length ws + slot) → winner_at ws a ≢ slot → (winner_at ws (2 * p) ≢ slot) × (winner_at ws (2 * p + 1) ≢ slot)
neither key es ws slot a p r l h half above n = elim (same_or_not a (2 * p)) [
  | inl e ↦ (subst (λ k. winner_at ws k ≢ slot) e n, λ won. one_child p (length ws + slot) l (subst (λ k. IsAbove k (length ws + slot)) e above) (won_by key es ws r slot (2 * p + 1) (omega arith) (omega arith) won))
  | inr x ↦ (let e : a ≡ 2 * p + 1 = omega arith in (λ won. one_child p (length ws + slot) l (won_by key es ws r slot (2 * p) (omega arith) (omega arith) won) (subst (λ k. IsAbove k (length ws + slot)) e above), subst (λ k. winner_at ws k ≢ slot) e n))
]

-- then its parent is right, and isn't won by the changed entry
pub parent_right : (key : Key) (es : List Entry) (start ws : List ℕ) (slot a p : ℕ) (w : WasRight key es start slot) → length ws ≡ length start → 0 < p → p ≡ a / 2 → a < length ws → IsAbove a (length ws + slot) → winner_at start a ≢ slot → ((j : ℕ) → j < 2 * a → winner_at ws j ≡ winner_at start j) → IsRightAt key es ws p × (winner_at start p ≢ slot)
parent_right key es start ws slot a p w len l half h above n same = (here, up)
  where
    both : (winner_at start (2 * p) ≢ slot) × (winner_at start (2 * p + 1) ≢ slot)
    both = neither key w.former start slot a p w.right l (omega arith) half (subst (λ m. IsAbove a (m + slot)) len above) n

    here : IsRightAt key es ws p
    here = rw (same p (omega arith), same (2 * p) (omega arith), same (2 * p + 1) (omega arith)) (w.right p l (omega arith) ∙ stays_right key es w.former slot (winner_at start (2 * p)) (winner_at start (2 * p + 1)) w.others both.0 both.1)

    up : winner_at start p ≢ slot
    up e = elim (better_one key w.former (winner_at start (2 * p)) (winner_at start (2 * p + 1))) [ inl x ↦ both.0 (sym x ∙ (sym (w.right p l (omega arith)) ∙ e)) | inr x ↦ both.1 (sym x ∙ (sym (w.right p l (omega arith)) ∙ e)) ]

-- and so all nodes above it
pub right_above_it : (key : Key) (es : List Entry) (start ws : List ℕ) (slot : ℕ) (w : WasRight key es start slot) → length ws ≡ length start → (i k : ℕ) → IsAbove i k → 0 < i → (a : ℕ) → k ≡ a / 2 → a < length ws → IsAbove a (length ws + slot) → winner_at start a ≢ slot → ((j : ℕ) → j < 2 * a → winner_at ws j ≡ winner_at start j) → IsRightAt key es ws i
right_above_it key es start ws slot w len i k (IsAbove.itself e) l a half h above n same = subst (λ m. IsRightAt key es ws m) e (parent_right key es start ws slot a k w len (omega arith) half h above n same).0
right_above_it key es start ws slot w len i k (IsAbove.over q) l a half h above n same =
    let le : i ≤ k / 2 = above_le i (k / 2) q in
    right_above_it key es start ws slot w len i (k / 2) q l k refl (omega arith) (subst (λ m. IsAbove m (length ws + slot)) (sym half) (parent_above a (length ws + slot) above))
    (parent_right key es start ws slot a k w len (omega arith) half h above n same).1 (λ j x. same j (omega arith))

-- where a node's winner stays, and isn't the changed entry, the tree is right
pub early_end : (key : Key) (es : List Entry) (start ws : List ℕ) (slot node : ℕ) → WasRight key es start slot → IsMended key es start ws slot node → 0 < node → winner_at ws node ≡ better key es (winner_at ws (2 * node)) (winner_at ws (2 * node + 1)) → winner_at ws node ≢ slot → IsRight key es ws
early_end key es start ws slot node w m z e n i l h = elim (m.right i l h) as (λ _. IsRightAt key es ws i) [
  | inl r ↦ r
  | inr p ↦ above p
]
  where
    at : winner_at ws node ≡ winner_at start node
    at = m.same node (omega arith)

    above : IsAbove i node → IsRightAt key es ws i
    above (IsAbove.itself x) = subst (λ k. IsRightAt key es ws k) x e
    above (IsAbove.over q) = right_above_it key es start ws slot w m.len i (node / 2) q l node refl m.within m.on_way (λ x. n (at ∙ x)) m.same
