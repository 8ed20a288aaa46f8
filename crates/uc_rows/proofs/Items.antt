-- Lists as code has them, by index, and as the machine has them.
use Rattle.std.proofs.Common.{◌≡◌, ℕ, zero, suc, ◌+◌, ◌<◌, ◌≤◌, List, [], ◌∷◌, length, get_or, set, Bool, true, false, cond, Option, Some, None, refl, ap, sym, arith, map, slice_get}
use Rattle.std.specs.Prelude.{remove, min, Result, Ok, Err, OnOk}
use Rattle.uc_machine.specs.Lists.{At, first, later, change, map_option, Each}

-- one item is changed
pub change-set : {A B : Type 0} (h : A → B) (f : B → B) (xs : List A) (n : ℕ) (y : A) → n < length xs → ((d : A) → h y ≡ f (h (get_or xs n d))) → map h (set xs n y) ≡ change f (map h xs) n
change-set h f [] n y l e = absurd (omega arith)
change-set h f (x ∷ xs) zero y l e = ap (λ z. z ∷ map h xs) (e x)
change-set h f (x ∷ xs) (suc n) y l e = ap (λ z. h x ∷ z) (change-set h f xs n y (omega arith) e)

pub change-set_plain : {A : Type 0} (f : A → A) (xs : List A) (n : ℕ) (y : A) → n < length xs → ((d : A) → y ≡ f (get_or xs n d)) → set xs n y ≡ change f xs n
change-set_plain f [] n y l e = absurd (omega arith)
change-set_plain f (x ∷ xs) zero y l e = ap (λ z. z ∷ xs) (e x)
change-set_plain f (x ∷ xs) (suc n) y l e = ap (λ z. x ∷ z) (change-set_plain f xs n y (omega arith) e)

pub change-read : {A : Type 0} (f : A → A) (xs : List A) (n : ℕ) (x : A) → n < length xs → x ≡ get_or xs n x → set xs n (f x) ≡ change f xs n
change-read f [] n x l e = absurd (omega arith)
change-read f (y ∷ xs) zero x l e = ap (λ z. f z ∷ xs) e
change-read f (y ∷ xs) (suc n) x l e = ap (λ z. y ∷ z) (change-read f xs n x (omega arith) e)

pub change-past : {A : Type 0} (f : A → A) (xs : List A) (n : ℕ) → length xs ≤ n → change f xs n ≡ xs
change-past f [] n l = refl
change-past f (x ∷ xs) zero l = absurd (omega arith)
change-past f (x ∷ xs) (suc n) l = ap (λ z. x ∷ z) (change-past f xs n (omega arith))

-- the first that passes
later-number : {A : Type 0} (o : Option (At A)) (i : ℕ) → map_option (λ (f : At A). f.number) o ≡ Some i → map_option (λ (f : At A). f.number) (later o) ≡ Some (suc i)
later-number None i e = absurd (cc)
later-number (Some f) i e = (let g : f.number ≡ i = cc in ap (λ n. Some (suc n)) g)

later-none : {A : Type 0} (o : Option (At A)) → map_option (λ (f : At A). f.number) o ≡ None → map_option (λ (f : At A). f.number) (later o) ≡ None
later-none None e = refl
later-none (Some f) e = absurd (cc)

pub first-at : {A B : Type 0} (h : A → B) (p : B → Bool) (xs : List A) (i : ℕ) → i < length xs → ((d : A) → p (h (get_or xs i d)) ≡ true) → ((k : ℕ) (d : A) → k < i → p (h (get_or xs k d)) ≡ false) → map_option (λ (f : At B). f.number) (first p (map h xs)) ≡ Some i
first-at h p [] i l y n = absurd (omega arith)
first-at h p (x ∷ xs) zero l y n = rw (y x) refl
first-at h p (x ∷ xs) (suc i) l y n = rw (n 0 x (omega arith)) (later-number (first p (map h xs)) i (first-at h p xs i (omega arith) y (λ k d b. n (suc k) d (omega arith))))

pub first-none : {A B : Type 0} (h : A → B) (p : B → Bool) (xs : List A) → ((k : ℕ) (d : A) → k < length xs → p (h (get_or xs k d)) ≡ false) → map_option (λ (f : At B). f.number) (first p (map h xs)) ≡ None
first-none h p [] n = refl
first-none h p (x ∷ xs) n = rw (n 0 x (omega arith)) (later-none (first p (map h xs)) (first-none h p xs (λ k d b. n (suc k) d (omega arith))))

-- the item of a number
pub get-at : {A : Type 0} (xs : List A) (n : ℕ) (x : A) → n < length xs → x ≡ get_or xs n x → slice_get xs n ≡ Some x
get-at [] n x l e = absurd (omega arith)
get-at (y ∷ xs) zero x l e = ap (λ z. Some z) (sym e)
get-at (y ∷ xs) (suc n) x l e = get-at xs n x (omega arith) e

pub get-past : {A : Type 0} (xs : List A) (n : ℕ) → length xs ≤ n → slice_get xs n ≡ None
get-past [] n l = refl
get-past (y ∷ xs) zero l = absurd (omega arith)
get-past (y ∷ xs) (suc n) l = get-past xs n (omega arith)

pub get-map : {A B : Type 0} (h : A → B) (xs : List A) (n : ℕ) (x : A) → slice_get xs n ≡ Some x → slice_get (map h xs) n ≡ Some (h x)
get-map h [] n x e = absurd (cc)
get-map h (y ∷ xs) zero x e = (let f : y ≡ x = cc in ap (λ z. Some (h z)) f)
get-map h (y ∷ xs) (suc n) x e = get-map h xs n x e

pub or-get : {A : Type 0} (xs : List A) (n : ℕ) (x d : A) → slice_get xs n ≡ Some x → get_or xs n d ≡ x
or-get [] n x d e = absurd (cc)
or-get (y ∷ xs) zero x d e = cc
or-get (y ∷ xs) (suc n) x d e = or-get xs n x d e

-- an item less
pub Each-remove : {A : Type 0} (P : A → Type 0) (xs : List A) (i : ℕ) → Each P xs → Each P (remove xs i)
Each-remove P [] zero e = tt
Each-remove P [] (suc i) e = tt
Each-remove P (x ∷ xs) zero e = e.1
Each-remove P (x ∷ xs) (suc i) e = (e.0, Each-remove P xs i e.1)

pub length-remove : {A : Type 0} (xs : List A) (i : ℕ) → i < length xs → length (remove xs i) + 1 ≡ length xs
length-remove [] i l = absurd (omega arith)
length-remove (x ∷ xs) zero l = omega arith
length-remove (x ∷ xs) (suc i) l = omega (arith, length-remove xs i (omega arith))

-- where a search goes on
pub back-le : (b : Bool) (f n to : ℕ) → to ≡ cond {A = ℕ} b (min f n) f → to ≤ f
back-le true f n to e = omega arith
back-le false f n to e = omega arith

pub back-at : (b : Bool) (f n to : ℕ) → to ≡ cond {A = ℕ} b (min f n) f → b ≡ true → to ≤ n
back-at true f n to e q = omega arith
back-at false f n to e q = absurd (cc)

pub on_ok : {T E : Type 0} {P Q : Type 0} (r : Result T E) → (P → Q) → OnOk r P → OnOk r Q
on_ok (Ok x) f h = f h
on_ok (Err e) f h = h
