-- Members of a list by their places.
use Rattle.std.proofs.Common.{◌≡◌, ℕ, zero, suc, ◌<◌, ◌≤◌, List, [], ◌∷◌, length, drop, get_or, arith, refl}
use Rattle.uc_order.specs.Members.{In, in_front, in_rest}

module _ {A : Type 0} where
  pub In-get : (xs : List A) (i : ℕ) (d : A) → i < length xs → In xs (get_or xs i d)
  In-get [] i d h = absurd (omega arith)
  In-get (x ∷ xs) zero d h = in_front
  In-get (x ∷ xs) (suc i) d h = in_rest (In-get xs i d (omega arith))

  not_first : (x y : A) (xs : List A) → (x ≡ y → ⊥) → In (x ∷ xs) y → In xs y
  not_first _ y xs n in_front = absurd (n refl)
  not_first x y xs n (in_rest i) = i

  pub In-drop : (xs : List A) (i : ℕ) (d y : A) → i < length xs → (get_or xs i d ≡ y → ⊥) → In (drop i xs) y → In (drop (suc i) xs) y
  In-drop [] i d y h n m = absurd (omega arith)
  In-drop (x ∷ xs) zero d y h n m = not_first x y xs n m
  In-drop (x ∷ xs) (suc i) d y h n m = In-drop xs i d y (omega arith) n m

  pub In-past : (xs : List A) (i : ℕ) (y : A) → length xs ≤ i → In (drop i xs) y → ⊥
  In-past [] zero y h m = elim m [ ]
  In-past [] (suc i) y h m = elim m [ ]
  In-past (x ∷ xs) zero y h m = absurd (omega arith)
  In-past (x ∷ xs) (suc i) y h m = In-past xs i y (omega arith) m

-- behind the end of a list nothing is left
pub past : {A : Type 0} (ns : List A) (p : ℕ) → length ns ≤ p → drop p ns ≡ []
past [] zero h = refl
past [] (suc p) h = refl
past (n ∷ ns) zero h = absurd (omega arith)
past (n ∷ ns) (suc p) h = past ns p (omega arith)
