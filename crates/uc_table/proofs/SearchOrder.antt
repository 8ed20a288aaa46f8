-- Laws of the lexicographic order of prefixes.
use Rattle.std.proofs.Common.{◌≡◌, ℕ, ◌+◌, ◌≤◌, ◌<◌, List, [], ◌∷◌, ◌++◌, refl, ap, sym, ◌∙◌, arith, inl, inr}
use Rattle.std.specs.Prelude.{◌⊎◌}
use Rattle.std.proofs.lemmas.Bool.{cases_order}
use Rattle.uc_table.specs.SearchPrefixes.{Before, front}
use Rattle.uc_table.specs.Tables.{AreValues}

pub before_trans : (p q r : List ℕ) → Before p q → Before q r → Before p r
before_trans p q [] a b = b
before_trans p [] (z ∷ r) a b = absurd a
before_trans [] (y ∷ q) (z ∷ r) a b = tt
before_trans (x ∷ p) (y ∷ q) (z ∷ r) (inl a) (inl b) = inl (omega arith)
before_trans (x ∷ p) (y ∷ q) (z ∷ r) (inl a) (inr b) = inl (let e : y ≡ z = b.0 in omega arith)
before_trans (x ∷ p) (y ∷ q) (z ∷ r) (inr a) (inl b) = inl (let e : x ≡ y = a.0 in omega arith)
before_trans (x ∷ p) (y ∷ q) (z ∷ r) (inr a) (inr b) = inr (a.0 ∙ b.0, before_trans p q r a.1 b.1)

pub before_irrefl : (p : List ℕ) → Before p p → ⊥
before_irrefl [] a = a
before_irrefl (x ∷ p) (inl a) = absurd (omega arith)
before_irrefl (x ∷ p) (inr a) = before_irrefl p a.1

-- one of three
pub order_of : (p q : List ℕ) → Before p q ⊎ ((p ≡ q) ⊎ Before q p)
order_of [] [] = inr (inl refl)
order_of [] (y ∷ q) = inl tt
order_of (x ∷ p) [] = inr (inr tt)
order_of (x ∷ p) (y ∷ q) = elim (cases_order x y) [
  | inl e ↦ (elim (order_of p q) [
    | inl b ↦ inl (inr (e, b))
    | inr h ↦ (elim h [ inl d ↦ inr (inl (ap (λ z. z ∷ p) e ∙ ap (λ r. y ∷ r) d)) | inr b ↦ inr (inr (inr (sym e, b))) ])
  ])
  | inr h ↦ (elim h [ inl l ↦ inl (inl l) | inr l ↦ inr (inr (inl l)) ])
]

-- behind the same beginning
pub before_behind : (p s t : List ℕ) → Before s t → Before (p ++ s) (p ++ t)
before_behind [] s t b = b
before_behind (x ∷ p) s t b = inr (refl, before_behind p s t b)

pub before_more : (p : List ℕ) (x : ℕ) (r : List ℕ) → Before p (p ++ x ∷ r)
before_more [] x r = tt
before_more (y ∷ p) x r = inr (refl, before_more p x r)

-- what goes before the next value goes before this one, or begins with it
pub before_next : (p : List ℕ) (x : ℕ) (q : List ℕ) → Before q (p ++ (x + 1) ∷ []) → Before q (p ++ x ∷ []) ⊎ ((r : List ℕ) × (q ≡ p ++ x ∷ r))
before_next [] x [] b = inl tt
before_next [] x (y ∷ q) (inl l) = elim (cases_order y x) [
  | inl e ↦ inr (q, ap (λ z. z ∷ q) e)
  | inr h ↦ (elim h [ inl a ↦ inl (inl a) | inr a ↦ absurd (omega arith) ])
]
before_next [] x (y ∷ q) (inr b) = absurd b.1
before_next (z ∷ p) x [] b = inl tt
before_next (z ∷ p) x (y ∷ q) (inl l) = inl (inl l)
before_next (z ∷ p) x (y ∷ q) (inr b) = elim (before_next p x q b.1) [
  | inl a ↦ inl (inr (b.0, a))
  | inr a ↦ inr (a.0, ap (λ u. u ∷ q) b.0 ∙ ap (λ u. z ∷ u) a.1)
]

pub next_after : (p : List ℕ) (x : ℕ) (r : List ℕ) → Before (p ++ x ∷ r) (p ++ (x + 1) ∷ [])
next_after p x r = before_behind p (x ∷ r) ((x + 1) ∷ []) (inl (omega arith))

-- what goes before the least prefix that continues p goes before p or is p
pub before_first : (p q : List ℕ) → Before q (p ++ 0 ∷ []) → Before q p ⊎ (q ≡ p)
before_first [] [] b = inr refl
before_first [] (y ∷ q) (inl l) = absurd (omega arith)
before_first [] (y ∷ q) (inr b) = absurd b.1
before_first (z ∷ p) [] b = inl tt
before_first (z ∷ p) (y ∷ q) (inl l) = inl (inl l)
before_first (z ∷ p) (y ∷ q) (inr b) = elim (before_first p q b.1) [
  | inl a ↦ inl (inr (b.0, a))
  | inr a ↦ inr (ap (λ u. u ∷ q) b.0 ∙ ap (λ u. z ∷ u) a)
]

pub below_append : (size : ℕ) (p q : List ℕ) → AreValues size p → AreValues size q → AreValues size (p ++ q)
below_append size [] q a b = b
below_append size (x ∷ p) q a b = (a.0, below_append size p q a.1 b)

pub below_behind : (size : ℕ) (p q : List ℕ) → AreValues size (p ++ q) → AreValues size q
below_behind size [] q a = a
below_behind size (x ∷ p) q a = below_behind size p q a.1

pub below_beginning : (size : ℕ) (p q : List ℕ) → AreValues size (p ++ q) → AreValues size p
below_beginning size [] q a = tt
below_beginning size (x ∷ p) q a = (a.0, below_beginning size p q a.1)

-- prefixes of values below the size that begin with p go before p with the size behind it
pub before_size : (size w : ℕ) (r : List ℕ) → size ≤ w → AreValues size r → Before r (w ∷ [])
before_size size w [] l b = tt
before_size size w (x ∷ r) l b = inl (let a : x < size = b.0 in omega arith)

pub front_last : (p : List ℕ) (x : ℕ) → front (p ++ x ∷ []) ≡ p
front_last [] x = refl
front_last (y ∷ []) x = refl
front_last (y ∷ z ∷ p) x = ap (λ u. y ∷ u) (front_last (z ∷ p) x)

pub front_behind : (p : List ℕ) (x y : ℕ) (r : List ℕ) → front (p ++ x ∷ y ∷ r) ≡ p ++ x ∷ front (y ∷ r)
front_behind [] x y r = refl
front_behind (z ∷ []) x y r = refl
front_behind (z ∷ w ∷ p) x y r = ap (λ u. z ∷ u) (front_behind (w ∷ p) x y r)
