-- Numbers that rise.
use Rattle.std.proofs.Common.{◌≡◌, ℕ, zero, suc, ◌+◌, ◌<◌, ◌≤◌, List, [], ◌∷◌, length, Bool, true, false, ◌==◌, refl, ap, sym, ◌∙◌, arith, inl, inr, get_or, Result, Ok, Err}
use Rattle.std.specs.Prelude.{◌||◌, filter, MatchResult, is_ok}
use Rattle.std.proofs.lemmas.Bool.{cases_Bool, cases_lt, eq-eqb, ne_eqb}
use Rattle.uc_shelf.specs.Entries.{is_dead}
use Rattle.uc_rows.specs.Rising.{AreRising, AreBelow}
use Rattle.uc_rows.specs.Deaths.{deaths_by}
use Rattle.uc_machine.proofs.Kept.{NotIn, Distinct}

pub rise_later : (n m : ℕ) (ks : List ℕ) → n ≤ m → AreRising m ks → AreRising n ks
rise_later n m [] l r = tt
rise_later n m (k ∷ ks) l r = (omega (arith, l, r.0), r.1)

pub filter_rises : (p : ℕ → Bool) (n : ℕ) (ks : List ℕ) → AreRising n ks → AreRising n (filter p ks)
filter_rises p n [] r = tt
filter_rises p n (k ∷ ks) r = elim (cases_Bool (p k)) as (λ _. AreRising n (filter p (k ∷ ks))) [
  | inl e ↦ rw e (r.0, filter_rises p (k + 1) ks r.1)
  | inr e ↦ rw e (rise_later n (k + 1) (filter p ks) (omega (arith, r.0)) (filter_rises p (k + 1) ks r.1))
]

pub filter_below : (p : ℕ → Bool) (n : ℕ) (ks : List ℕ) → AreBelow n ks → AreBelow n (filter p ks)
filter_below p n [] b = tt
filter_below p n (k ∷ ks) b = elim (cases_Bool (p k)) as (λ _. AreBelow n (filter p (k ∷ ks))) [
  | inl e ↦ rw e (b.0, filter_below p n ks b.1)
  | inr e ↦ rw e (filter_below p n ks b.1)
]

pub below_more : (n m : ℕ) (ks : List ℕ) → n ≤ m → AreBelow n ks → AreBelow m ks
below_more n m [] l b = tt
below_more n m (k ∷ ks) l b = (omega (arith, l, b.0), below_more n m ks l b.1)

not_in : (k m : ℕ) (ks : List ℕ) → k < m → AreRising m ks → NotIn k ks
not_in k m [] l r = tt
not_in k m (j ∷ ks) l r = ((λ e. omega (arith, l, r.0, e)), not_in k (j + 1) ks (omega (arith, l, r.0)) r.1)

pub rising_differ : (n : ℕ) (ks : List ℕ) → AreRising n ks → Distinct ks
rising_differ n [] r = tt
rising_differ n (k ∷ ks) r = (not_in k (k + 1) ks (omega arith) r.1, rising_differ (k + 1) ks r.1)

rising_at : (n : ℕ) (ks : List ℕ) (j : ℕ) → AreRising n ks → j < length ks → n ≤ get_or ks j 0
rising_at n [] j r l = absurd (omega (arith, l))
rising_at n (k ∷ ks) zero r l = r.0
rising_at n (k ∷ ks) (suc j) r l = let h : k + 1 ≤ get_or ks j 0 = rising_at (k + 1) ks j r.1 (omega (arith, l)) in omega (arith, h, r.0)

pub rising_sorted : (n : ℕ) (ks : List ℕ) → AreRising n ks → (i j : ℕ) → i ≤ j → j < length ks → get_or ks i 0 ≤ get_or ks j 0
rising_sorted n [] r i j l b = absurd (omega (arith, b))
rising_sorted n (k ∷ ks) r zero zero l b = omega arith
rising_sorted n (k ∷ ks) r zero (suc j) l b = let h : k + 1 ≤ get_or ks j 0 = rising_at (k + 1) ks j r.1 (omega (arith, b)) in omega (arith, h)
rising_sorted n (k ∷ ks) r (suc i) zero l b = absurd (omega (arith, l))
rising_sorted n (k ∷ ks) r (suc i) (suc j) l b = rising_sorted (k + 1) ks r.1 i j (omega (arith, l)) (omega (arith, b))

-- a number of the list is that of a death, and no other is

dead_at : (killer : ℕ) (ks : List ℕ) (i : ℕ) → i < length ks → is_dead (deaths_by killer ks) (get_or ks i 0) ≡ true
dead_at killer [] i l = absurd (omega (arith, l))
dead_at killer (k ∷ ks) zero l = ap (λ b. b || is_dead (deaths_by killer ks) k) (eq-eqb k k refl)
dead_at killer (k ∷ ks) (suc i) l = ap (λ b. (k == get_or ks i 0) || b) (dead_at killer ks i (omega (arith, l))) ∙ or_true (k == get_or ks i 0)
  where
    or_true : (b : Bool) → b || true ≡ true
    or_true true = refl
    or_true false = refl

dead_not : (killer : ℕ) (ks : List ℕ) (x : ℕ) → ((i : ℕ) → i < length ks → get_or ks i 0 ≡ x → ⊥) → is_dead (deaths_by killer ks) x ≡ false
dead_not killer [] x h = refl
dead_not killer (k ∷ ks) x h = ap (λ b. b || is_dead (deaths_by killer ks) x) (ne_eqb k x (h 0 (omega arith))) ∙ dead_not killer ks x (λ i l e. h (suc i) (omega (arith, l)) e)

pub found_dead : (killer : ℕ) (ks : List ℕ) (x : ℕ) (r : Result ℕ ℕ)
    → MatchResult r (λ i. (i < length ks) × (get_or ks i 0 ≡ x)) (λ i. (i ≤ length ks) × ((k : ℕ) → k < i → get_or ks k 0 < x) × ((k : ℕ) → i ≤ k → k < length ks → x < get_or ks k 0))
    → is_ok r ≡ is_dead (deaths_by killer ks) x
found_dead killer ks x (Ok i) h = sym (ap (λ z. is_dead (deaths_by killer ks) z) (sym h.1) ∙ dead_at killer ks i h.0)
found_dead killer ks x (Err i) h = sym (dead_not killer ks x (λ k l e. by_place i k l e h.1 h.2))
  where
    by_place : (i k : ℕ) → k < length ks → get_or ks k 0 ≡ x → ((k : ℕ) → k < i → get_or ks k 0 < x) → ((k : ℕ) → i ≤ k → k < length ks → x < get_or ks k 0) → ⊥
    by_place i k l e low high = elim (cases_lt k i) as (λ _. ⊥) [
      | inl b ↦ omega (arith, low k b, e)
      | inr b ↦ omega (arith, high k b l, e)
    ]
