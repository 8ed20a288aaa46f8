-- Items, changes, tasks by ticket.
use Rattle.std.proofs.Common.{◌≡◌, ℕ, zero, suc, ◌+◌, ◌<◌, ◌≤◌, List, [], ◌∷◌, ◌++◌, length, cond, ◌==◌, Some, refl, ap, arith, inl, inr, slice_get}
use Rattle.std.specs.Prelude.{◌⊎◌}
use Rattle.std.proofs.lemmas.Bool.{cases_Bool}
use Rattle.std.proofs.lemmas.List.Sums.{sum_by-cons}
use Rattle.std.specs.List.{sum_by}
use Rattle.uc_machine.specs.Lists.{change, Each}
use Rattle.uc_machine.specs.State.{Out, out_at, without}
use Rattle.uc_machine.specs.Promises.{Rising}

pub get-append : {A : Type 0} (xs ys : List A) (n : ℕ) (x : A) → slice_get xs n ≡ Some x → slice_get (xs ++ ys) n ≡ Some x
get-append [] ys n x e = absurd (cc)
get-append (y ∷ xs) ys zero x e = e
get-append (y ∷ xs) ys (suc n) x e = get-append xs ys n x e

pub get-push : {A : Type 0} (xs : List A) (x : A) → slice_get (xs ++ x ∷ []) (length xs) ≡ Some x
get-push [] x = refl
get-push (y ∷ xs) x = get-push xs x

pub below : {A : Type 0} (xs : List A) (n : ℕ) (x : A) → slice_get xs n ≡ Some x → n < length xs
below [] n x e = absurd (cc)
below (y ∷ xs) zero x e = omega arith
below (y ∷ xs) (suc n) x e = let h : n < length xs = below xs n x e in omega arith

pub get-change_same : {A : Type 0} (f : A → A) (xs : List A) (n : ℕ) (x : A) → slice_get xs n ≡ Some x → slice_get (change f xs n) n ≡ Some (f x)
get-change_same f [] n x e = absurd (cc)
get-change_same f (y ∷ xs) zero x e = let h : y ≡ x = cc in ap (λ z. Some (f z)) h
get-change_same f (y ∷ xs) (suc n) x e = get-change_same f xs n x e

pub get-change_other : {A : Type 0} (f : A → A) (xs : List A) (n m : ℕ) → (n ≡ m → ⊥) → slice_get (change f xs n) m ≡ slice_get xs m
get-change_other f [] n m ne = refl
get-change_other f (y ∷ xs) zero zero ne = absurd (ne refl)
get-change_other f (y ∷ xs) zero (suc m) ne = refl
get-change_other f (y ∷ xs) (suc n) zero ne = refl
get-change_other f (y ∷ xs) (suc n) (suc m) ne = get-change_other f xs n m (λ e. ne (ap suc e))

pub get-changed : {A : Type 0} (f : A → A) (xs : List A) (n m : ℕ) (y : A) → slice_get (change f xs n) m ≡ Some y → (slice_get xs m ≡ Some y) ⊎ ((n ≡ m) × ((x : A) × (slice_get xs m ≡ Some x) × (y ≡ f x)))
get-changed f [] n m y e = absurd (cc)
get-changed f (x ∷ xs) zero zero y e = inr (refl, (x, refl, (cc)))
get-changed f (x ∷ xs) zero (suc m) y e = inl e
get-changed f (x ∷ xs) (suc n) zero y e = inl e
get-changed f (x ∷ xs) (suc n) (suc m) y e = elim (get-changed f xs n m y e) [ inl a ↦ inl a | inr b ↦ inr (ap suc b.0, b.1) ]

pub length-change : {A : Type 0} (f : A → A) (xs : List A) (n : ℕ) → length (change f xs n) ≡ length xs
length-change f [] n = refl
length-change f (x ∷ xs) zero = refl
length-change f (x ∷ xs) (suc n) = ap suc (length-change f xs n)

pub Each-map : {A : Type 0} {P Q : A → Type 0} → ((x : A) → P x → Q x) → (xs : List A) → Each P xs → Each Q xs
Each-map f [] h = tt
Each-map f (x ∷ xs) h = (f x h.0, Each-map f xs h.1)

pub Each-front : {A : Type 0} (P : A → Type 0) (xs ys : List A) → Each P (xs ++ ys) → Each P xs
Each-front P [] ys h = tt
Each-front P (x ∷ xs) ys h = (h.0, Each-front P xs ys h.1)

pub Each-behind : {A : Type 0} (P : A → Type 0) (xs ys : List A) → Each P (xs ++ ys) → Each P ys
Each-behind P [] ys h = h
Each-behind P (x ∷ xs) ys h = Each-behind P xs ys h.1

pub Each-push : {A : Type 0} (P : A → Type 0) (xs : List A) (x : A) → Each P xs → P x → Each P (xs ++ x ∷ [])
Each-push P [] x h p = (p, tt)
Each-push P (y ∷ xs) x h p = (h.0, Each-push P xs x h.1 p)

pub Each-without : (P : Out → Type 0) (n : ℕ) (xs : List Out) → Each P xs → Each P (without n xs)
Each-without P n [] h = tt
Each-without P n (t ∷ xs) h = elim (cases_Bool (t.ticket == n)) as (λ _. Each P (cond (t.ticket == n) xs (t ∷ without n xs))) [
  | inl e ↦ rw e h.1
  | inr e ↦ rw e (h.0, Each-without P n xs h.1)
]

pub Each-at : (P : Out → Type 0) (n : ℕ) (xs : List Out) (t : Out) → out_at n xs ≡ Some t → Each P xs → P t
Each-at P n [] t e h = absurd (cc)
Each-at P n (u ∷ xs) t e h = elim (cases_Bool (u.ticket == n)) [
  | inl b ↦ let same : u ≡ t = (let f : Some u ≡ Some t = rw b at e in cc) in rw (← same) h.0
  | inr b ↦ Each-at P n xs t (rw b at e) h.1
]

pub sum-without : (f : Out → ℕ) (n : ℕ) (xs : List Out) (t : Out) → out_at n xs ≡ Some t → sum_by f (without n xs) + f t ≡ sum_by f xs
sum-without f n [] t e = absurd (cc)
sum-without f n (u ∷ xs) t e = elim (cases_Bool (u.ticket == n)) [
  | inl b ↦ let same : u ≡ t = (let g : Some u ≡ Some t = rw b at e in cc) in rw (b, ← same) (let c = sum_by-cons f u xs in omega arith)
  | inr b ↦ let ih = sum-without f n xs t (rw b at e) in rw b (let c = sum_by-cons f u xs in let d = sum_by-cons f u (without n xs) in omega arith)
]

pub Rising-weaken : (m n : ℕ) (xs : List Out) → m ≤ n → Rising n xs → Rising m xs
Rising-weaken m n [] l r = tt
Rising-weaken m n (t ∷ xs) l r = let a : n ≤ t.ticket = r.0 in (omega arith, r.1)

pub Rising-push : (n : ℕ) (xs : List Out) (t : Out) → n ≤ t.ticket → Each (λ (u : Out). u.ticket < t.ticket) xs → Rising n xs → Rising n (xs ++ t ∷ [])
Rising-push n [] t l h r = (l, tt)
Rising-push n (u ∷ xs) t l h r = (r.0, Rising-push (suc u.ticket) xs t h.0 h.1 r.1)

pub Rising-without : (n k : ℕ) (xs : List Out) → Rising n xs → Rising n (without k xs)
Rising-without n k [] r = tt
Rising-without n k (t ∷ xs) r = elim (cases_Bool (t.ticket == k)) as (λ _. Rising n (cond (t.ticket == k) xs (t ∷ without k xs))) [
  | inl e ↦ rw e (let a : n ≤ t.ticket = r.0 in Rising-weaken n (suc t.ticket) xs (omega arith) r.1)
  | inr e ↦ rw e (r.0, Rising-without (suc t.ticket) k xs r.1)
]
