-- Notes of places.
use Rattle.std.proofs.Common.{ℕ, zero, suc, ◌≡◌, ◌+◌, ◌<◌, ◌≤◌, List, [], ◌∷◌, length, Some, refl, sym, ap, ◌∙◌, subst, arith, ◌⊎◌, inl, inr, get_or, min}
use Rattle.std.specs.Prelude.{slice_get, slice_set}
use Rattle.std.proofs.lemmas.Option.{slice_get_within, slice_get-get_or, get_or_from_slice_get}
use Rattle.uc_disc.specs.declared.place.Label.TheVariants.{Leaf}
use Rattle.uc_disc.specs.declared.place.Place.{Place}
use Rattle.uc_disc.specs.Trail.{bare, IsMark}
use Rattle.uc_disc.proofs.Bare.{mark_alike, set_bare}

-- what is known when the places from one on and before another are seen to be below the first one
pub record Seen (ps : List Place) (i depth next least : ℕ) : Type 0 where
  pub ahead : i < next
  pub within : next ≤ length ps
  pub below : (j : ℕ) (q : Place) → i < j → j < next → slice_get ps j ≡ Some q → depth < q.depth
  pub leaves : (j : ℕ) (q : Place) (r : ℕ) → i ≤ j → j < next → slice_get ps j ≡ Some q → q.label ≡ Leaf r → least ≤ r

module _ (ps : List Place) (i : ℕ) (h : i < length ps) (dp : Place) where
  abbrev p : Place
  p = get_or ps i dp

  here : (q : Place) → slice_get ps i ≡ Some q → q ≡ p
  here q g = sym (get_or_from_slice_get ps i q dp g)

  pub seen_first : (least : ℕ) → ((r : ℕ) → p.label ≡ Leaf r → least ≡ r) → Seen ps i p.depth (i + 1) least
  seen_first least e = record {
    ahead = omega arith;
    within = omega arith;
    below = λ j q a b g. absurd (omega arith);
    leaves = λ j q r a b g is. (let same : j ≡ i = omega arith in let g' : slice_get ps i ≡ Some q = subst (λ (z : ℕ). slice_get ps z ≡ Some q) same g in omega (arith, e r (ap (λ (z : Place). z.label) (sym (here q g')) ∙ is)));
  }

  pub seen_more : (next least : ℕ) (m : Place) → Seen ps i p.depth next least → next < length ps → (dn : Place) → p.depth < (get_or ps next dn).depth → IsMark ps next m → (new : ℕ) → new ≡ min least m.least → Seen ps i p.depth m.skip new
  seen_more next least m s k dn deeper mark new is = record {
    ahead = omega (arith, s.ahead, mark.ahead);
    within = mark.within;
    below = λ j q a b g. below j q a b g (let z : (j < next) ⊎ ((j ≡ next) ⊎ (next < j)) = grind arith in z);
    leaves = λ j q r a b g e. leaves j q r a b g e (let z : (j < next) ⊎ (next ≤ j) = grind arith in z);
  }
    where
      n : slice_get ps next ≡ Some (get_or ps next dn)
      n = slice_get-get_or ps next dn k

      below : (j : ℕ) (q : Place) → i < j → j < m.skip → slice_get ps j ≡ Some q → (j < next) ⊎ ((j ≡ next) ⊎ (next < j)) → p.depth < q.depth
      below j q a b g (inl c) = s.below j q a c g
      below j q a b g (inr (inl c)) = (let g' : slice_get ps next ≡ Some q = subst (λ (z : ℕ). slice_get ps z ≡ Some q) c g in let same : get_or ps next dn ≡ q = get_or_from_slice_get ps next q dn g' in omega (arith, ap (λ (z : Place). z.depth) same))
      below j q a b g (inr (inr c)) = omega (arith, mark.below j (get_or ps next dn) q n c b g)

      leaves : (j : ℕ) (q : Place) (r : ℕ) → i ≤ j → j < m.skip → slice_get ps j ≡ Some q → q.label ≡ Leaf r → (j < next) ⊎ (next ≤ j) → new ≤ r
      leaves j q r a b g e (inl c) = omega (arith, s.leaves j q r a c g e)
      leaves j q r a b g e (inr c) = omega (arith, mark.least j q r c b g e)

  pub seen_all : (next least : ℕ) → Seen ps i p.depth next least → ((dn : Place) → next < length ps → (get_or ps next dn).depth ≤ p.depth) → IsMark ps i (record { label = p.label; depth = p.depth; skip = next; least = least })
  seen_all next least s stop = record {
    ahead = s.ahead;
    within = s.within;
    below = λ j a q g b c k. (let e = here a g in omega (arith, ap (λ (z : Place). z.depth) e, s.below j q b c k));
    behind = λ a q g k. (let e = here a g in let f = get_or_from_slice_get ps next q q k in omega (arith, ap (λ (z : Place). z.depth) e, ap (λ (z : Place). z.depth) f, stop q (slice_get_within ps next q k)));
    least = s.leaves;
  }

pub get-set : {A : Type 0} (xs : List A) (i j : ℕ) (x y : A) → slice_get (slice_set xs i y) j ≡ Some x → ((j ≡ i) × (x ≡ y)) ⊎ (slice_get xs j ≡ Some x)
get-set [] i j x y e = inr e
get-set (z ∷ xs) zero zero x y e = inl (refl, cc)
get-set (z ∷ xs) zero (suc j) x y e = inr e
get-set (z ∷ xs) (suc i) zero x y e = inr e
get-set (z ∷ xs) (suc i) (suc j) x y e = next (get-set xs i j x y e)
  where
    next : ((j ≡ i) × (x ≡ y)) ⊎ (slice_get xs j ≡ Some x) → ((suc j ≡ suc i) × (x ≡ y)) ⊎ (slice_get xs j ≡ Some x)
    next (inl p) = inl (ap suc p.0, p.1)
    next (inr k) = inr k

set-same : {A : Type 0} (xs : List A) (i : ℕ) (x y : A) → slice_get (slice_set xs i y) i ≡ Some x → x ≡ y
set-same [] i x y e = absurd cc
set-same (z ∷ xs) zero x y e = cc
set-same (z ∷ xs) (suc i) x y e = set-same xs i x y e

pub marks_more : (ps : List Place) (i : ℕ) (m : Place) → ((p : Place) → slice_get ps i ≡ Some p → bare m ≡ bare p) → ((j : ℕ) (n : Place) → i < j → slice_get ps j ≡ Some n → IsMark ps j n) → IsMark ps i m → (j : ℕ) (n : Place) → i ≤ j → slice_get (slice_set ps i m) j ≡ Some n → IsMark (slice_set ps i m) j n
marks_more ps i m same known here j n h e = mark_alike ps (slice_set ps i m) j n (sym (set_bare ps i m same)) (go (let z : (j ≡ i) ⊎ (i < j) = grind arith in z))
  where
    other : i < j → ((j ≡ i) × (n ≡ m)) ⊎ (slice_get ps j ≡ Some n) → IsMark ps j n
    other l (inl p) = absurd (omega (arith, p.0))
    other l (inr g) = known j n l g

    go : (j ≡ i) ⊎ (i < j) → IsMark ps j n
    go (inl same) = rw (same, set-same ps i n m (subst (λ (z : ℕ). slice_get (slice_set ps i m) z ≡ Some n) same e)) here
    go (inr l) = other l (get-set ps i j n m e)
