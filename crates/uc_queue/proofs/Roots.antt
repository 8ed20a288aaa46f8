-- The root of a right tree has the least entry.
use Rattle.std.proofs.Common.{◌≡◌, ◌≢◌, ℕ, zero, suc, ◌+◌, ◌-◌, ◌*◌, ◌/◌, ◌≤◌, ◌<◌, List, [], ◌∷◌, length, true, false, ◌==◌, Option, Some, None, refl, ap, sym, ◌∙◌, arith, inl, inr, subst, get_or}
use Rattle.std.specs.Prelude.{◌⊎◌}
use Rattle.std.specs.List.{slice_get, Contains}
use Rattle.std.proofs.lemmas.Option.{slice_get_cases, slice_get-get_or}
use Rattle.std.proofs.lemmas.Bool.{cases_Bool}
use Rattle.uc_queue.specs.declared.entry.Entry.{Entry}
use Rattle.uc_queue.specs.declared.entry.Key.{Key}
use Rattle.uc_queue.specs.Queue.{least, lesser, by_number}
use Rattle.uc_queue.specs.Trees.{before, loses, better, winner_at, IsRight}
use Rattle.uc_queue.proofs.Losing.{never_itself, not_both, not_before, one_number, draws_level, wins_back, loses_to_none}
use Rattle.uc_queue.proofs.Trees.{leaf, same_or_not}
use Rattle.uc_queue.proofs.Members.{In, here, there, split, contains_in, in_contains, in_by_number, out_by_number, IsDistinct, apart, one_entry}

-- m is the least entry of the list
record IsLeast (key : Key) (es : List Entry) : Type 0 where
  m : Entry
  named : least (before key) es ≡ Some m
  within : In m es
  bound : (x : Entry) → In x es → before key x m ≡ false

goes_on : (key : Key) (e m : Entry) (o : Option Entry) → o ≡ Some m → before key m e ≡ true → Some (lesser (before key) e o) ≡ Some m
goes_on key e m o h b = rw (h, b) refl

is_first : (key : Key) (e m : Entry) (o : Option Entry) → o ≡ Some m → before key m e ≡ false → Some (lesser (before key) e o) ≡ Some e
is_first key e m o h b = rw (h, b) refl

least_of : (key : Key) (e : Entry) (es : List Entry) → IsLeast key (e ∷ es)
least_of key e [] = record { m = e; named = refl; within = here; bound = λ x i. one x (split x e [] i) }
  where
    one : (x : Entry) → (x ≡ e) ⊎ In x [] → before key x e ≡ false
    one x (inl y) = subst (λ z. before key z e ≡ false) (sym y) (never_itself key e)
    one x (inr i) = elim i [ ]
least_of key e (f ∷ fs) = join (least_of key f fs)
  where
    join : IsLeast key (f ∷ fs) → IsLeast key (e ∷ f ∷ fs)
    join l = elim (cases_Bool (before key l.m e)) [
      | inl b ↦ record {
        m = l.m;
        named = goes_on key e l.m (least (before key) (f ∷ fs)) l.named b;
        within = there l.within;
        bound = λ x i. (elim (split x e (f ∷ fs) i) as (λ _. before key x l.m ≡ false) [
          | inl y ↦ subst (λ z. before key z l.m ≡ false) (sym y) (not_both key l.m e b)
          | inr j ↦ l.bound x j
        ]);
      }
      | inr b ↦ record {
        m = e;
        named = is_first key e l.m (least (before key) (f ∷ fs)) l.named b;
        within = here;
        bound = λ x i. (elim (split x e (f ∷ fs) i) as (λ _. before key x e ≡ false) [
          | inl y ↦ subst (λ z. before key z e ≡ false) (sym y) (never_itself key e)
          | inr j ↦ not_before key e l.m x b (l.bound x j)
        ]);
      }
    ]

-- a member that none is before, of distinct numbers, is the least
pub is_least : (key : Key) (es : List Entry) (e : Entry) → In e es → ((x : Entry) → In x es → before key x e ≡ false) → ((x : Entry) → In x es → x.number ≡ e.number → x ≡ e) → least (before key) es ≡ Some e
is_least key [] e i h u = elim i [ ]
is_least key (f ∷ fs) e i h u = known (least_of key f fs)
  where
    known : IsLeast key (f ∷ fs) → least (before key) (f ∷ fs) ≡ Some e
    known l = l.named ∙ ap Some (u l.m l.within (one_number key l.m e (h l.m l.within) (l.bound e i)))

better_left : (key : Key) (es : List Entry) (a b : ℕ) → loses key (slice_get es (better key es a b)) (slice_get es a) ≡ false
better_left key es a b = elim (cases_Bool (loses key (slice_get es a) (slice_get es b))) [ inl h ↦ rw h (wins_back key (slice_get es a) (slice_get es b) h) | inr h ↦ rw h (draws_level key (slice_get es a)) ]

better_right : (key : Key) (es : List Entry) (a b : ℕ) → loses key (slice_get es (better key es a b)) (slice_get es b) ≡ false
better_right key es a b = elim (cases_Bool (loses key (slice_get es a) (slice_get es b))) [ inl h ↦ rw h (draws_level key (slice_get es b)) | inr h ↦ rw h h ]

-- the root loses to no node
root_wins : (key : Key) (es : List Entry) (ws : List ℕ) → IsRight key es ws → (f k : ℕ) → k ≤ f → 0 < k → k < 2 * length ws → loses key (slice_get es (winner_at ws 1)) (slice_get es (winner_at ws k)) ≡ false
root_wins key es ws r zero k l p h = absurd (omega arith)
root_wins key es ws r (suc f) k l p h = elim (same_or_not k 1) [
  | inl e ↦ subst (λ n. loses key (slice_get es (winner_at ws 1)) (slice_get es (winner_at ws n)) ≡ false) (sym e) (draws_level key (slice_get es (winner_at ws 1)))
  | inr x ↦ loses_to_none key (slice_get es (winner_at ws 1)) (slice_get es (winner_at ws (k / 2))) (slice_get es (winner_at ws k)) (root_wins key es ws r f (k / 2) (omega arith) (omega arith) (omega arith)) (parent_wins x)
]
  where
    parent_wins : k ≢ 1 → loses key (slice_get es (winner_at ws (k / 2))) (slice_get es (winner_at ws k)) ≡ false
    parent_wins x = elim (same_or_not k (2 * (k / 2))) [
      | inl e ↦ rw (r (k / 2) (omega arith) (omega arith)) (subst (λ n. loses key (slice_get es (better key es (winner_at ws (2 * (k / 2))) (winner_at ws (2 * (k / 2) + 1)))) (slice_get es (winner_at ws n)) ≡ false) (sym e) (better_left key es (winner_at ws (2 * (k / 2))) (winner_at ws (2 * (k / 2) + 1))))
      | inr y ↦ let e : k ≡ 2 * (k / 2) + 1 = omega arith in rw (r (k / 2) (omega arith) (omega arith)) (subst (λ n. loses key (slice_get es (better key es (winner_at ws (2 * (k / 2))) (winner_at ws (2 * (k / 2) + 1)))) (slice_get es (winner_at ws n)) ≡ false) (sym e) (better_right key es (winner_at ws (2 * (k / 2))) (winner_at ws (2 * (k / 2) + 1))))
    ]

root_bounds : (key : Key) (es : List Entry) (ws : List ℕ) → IsRight key es ws → length es ≤ length ws → (j : ℕ) → j < length es → loses key (slice_get es (winner_at ws 1)) (slice_get es j) ≡ false
root_bounds key es ws r room j l =
    let e : winner_at ws (length ws + j) ≡ j = leaf ws (length ws + j) (omega arith) ∙ (let m : length ws + j - length ws ≡ j = omega arith in m) in
    subst (λ n. loses key (slice_get es (winner_at ws 1)) (slice_get es n) ≡ false) e (root_wins key es ws r (length ws + j) (length ws + j) (omega arith) (omega arith) (omega arith))

pub root_least : (key : Key) (es : List Entry) (ws : List ℕ) → IsRight key es ws → length es ≤ length ws → IsDistinct es → 0 < length es → (winner_at ws 1 < length es) × (slice_get es (winner_at ws 1) ≡ least (before key) (by_number es))
root_least key es ws r room d some = known (slice_get_cases es (winner_at ws 1)).1
  where
    bounds : (e x : Entry) → slice_get es (winner_at ws 1) ≡ Some e → In x es → before key x e ≡ false
    bounds e x is i =
        let c : Contains es x = in_contains x es i in
        let g : slice_get es c.0 ≡ Some x = slice_get-get_or es c.0 x c.1 ∙ ap Some c.2 in
        subst (λ o. loses key o (Some x) ≡ false) is (subst (λ o. loses key (slice_get es (winner_at ws 1)) o ≡ false) g (root_bounds key es ws r room c.0 c.1))

    known : ((x : Entry) × (winner_at ws 1 < length es) × (slice_get es (winner_at ws 1) ≡ Some x) × (get_or es (winner_at ws 1) x ≡ x)) ⊎ ((length es ≤ winner_at ws 1) × (slice_get es (winner_at ws 1) ≡ None)) → (winner_at ws 1 < length es) × (slice_get es (winner_at ws 1) ≡ least (before key) (by_number es))
    known (inl f) = (f.1, f.2 ∙ sym (is_least key (by_number es) f.0 (in_by_number f.0 es (contains_in f.0 es (winner_at ws 1) f.1 f.3)) (λ x i. bounds f.0 x f.2 (out_by_number x es i)) (λ x i e. one_entry es x f.0 (apart es d) (out_by_number x es i) (contains_in f.0 es (winner_at ws 1) f.1 f.3) e)))
    known (inr n) = absurd (never (slice_get es 0) (slice_get_cases es 0).1)
      where
        never : (o : Option Entry) → ((x : Entry) × (0 < length es) × (slice_get es 0 ≡ Some x) × (get_or es 0 x ≡ x)) ⊎ ((length es ≤ 0) × (slice_get es 0 ≡ None)) → ⊥
        never o (inl g) = let h : loses key None (Some g.0) ≡ false = subst (λ o. loses key o (Some g.0) ≡ false) n.1 (subst (λ o. loses key (slice_get es (winner_at ws 1)) o ≡ false) g.2 (root_bounds key es ws r room 0 some)) in cc
        never o (inr g) = let l : length es ≤ 0 = g.0 in omega arith

pub not_empty : (es : List Entry) → (length es == 0) ≡ false → 0 < length es
not_empty [] h = grind arith
not_empty (e ∷ es) h = omega arith
