-- Elements of lists by their numbers.
use Rattle.std.proofs.Common.{◌≡◌, ℕ, zero, suc, List, [], ◌∷◌, ◌++◌, map, length, slice_get, Some, refl, ◌⊎◌, inl, inr, arith}

pub get-append_left : {A : Type 0} (xs ys : List A) (i : ℕ) (x : A) → slice_get xs i ≡ Some x → slice_get (xs ++ ys) i ≡ Some x
get-append_left [] ys i x e = absurd cc
get-append_left (z ∷ xs) ys zero x e = e
get-append_left (z ∷ xs) ys (suc i) x e = get-append_left xs ys i x e

pub get-append_right : {A : Type 0} (xs ys : List A) (i : ℕ) (x : A) → slice_get ys i ≡ Some x → (j : ℕ) × (slice_get (xs ++ ys) j ≡ Some x)
get-append_right [] ys i x e = (i, e)
get-append_right (z ∷ xs) ys i x e = let r = get-append_right xs ys i x e in (suc r.0, r.1)

pub get-append_cases : {A : Type 0} (xs ys : List A) (i : ℕ) (x : A) → slice_get (xs ++ ys) i ≡ Some x → (slice_get xs i ≡ Some x) ⊎ ((j : ℕ) × (slice_get ys j ≡ Some x))
get-append_cases [] ys i x e = inr (i, e)
get-append_cases (z ∷ xs) ys zero x e = inl e
get-append_cases (z ∷ xs) ys (suc i) x e = get-append_cases xs ys i x e

-- what stands in the list of images is an image
pub get-map : {A B : Type 0} (f : A → B) (xs : List A) (i : ℕ) (y : B) → slice_get (map f xs) i ≡ Some y → (x : A) × (slice_get xs i ≡ Some x) × (f x ≡ y)
get-map f [] i y e = absurd cc
get-map f (x ∷ xs) zero y e = (x, refl, cc)
get-map f (x ∷ xs) (suc i) y e = get-map f xs i y e

pub map-get : {A B : Type 0} (f : A → B) (xs : List A) (i : ℕ) (x : A) → slice_get xs i ≡ Some x → slice_get (map f xs) i ≡ Some (f x)
map-get f [] i x e = absurd cc
map-get f (z ∷ xs) zero x e = let q : z ≡ x = cc in rw q refl
map-get f (z ∷ xs) (suc i) x e = map-get f xs i x e

pub get_pushed : {A : Type 0} (xs : List A) (y : A) (i : ℕ) (x : A) → slice_get (xs ++ y ∷ []) i ≡ Some x → (slice_get xs i ≡ Some x) ⊎ ((i ≡ length xs) × (x ≡ y))
get_pushed [] y zero x e = inr (refl, cc)
get_pushed [] y (suc i) x e = absurd cc
get_pushed (z ∷ xs) y zero x e = inl e
get_pushed (z ∷ xs) y (suc i) x e = elim (get_pushed xs y i x e) [ inl h ↦ inl h | inr h ↦ inr (let q = h.0 in omega arith, h.1) ]
