-- At most n numbers below n are different.
use Rattle.std.proofs.Common.{◌≡◌, ℕ, zero, suc, ◌<◌, ◌≤◌, List, [], ◌∷◌, length, cond, ◌==◌, refl, ap, arith, inl, inr, subst}
use Rattle.std.proofs.lemmas.Bool.{cases_eq, eq-eqb, ne_eqb}
use Rattle.uc_machine.specs.Lists.{Each}
use Rattle.uc_machine.proofs.Kept.{NotIn, Distinct}

-- the list without a number
abbrev less : ℕ → List ℕ → List ℕ
less n [] = []
less n (m ∷ ms) = cond (m == n) (less n ms) (m ∷ less n ms)

less-same : (n : ℕ) (ms : List ℕ) → NotIn n ms → less n ms ≡ ms
less-same n [] h = refl
less-same n (m ∷ ms) h = rw (ne_eqb m n h.0) (ap (λ xs. m ∷ xs) (less-same n ms h.1))

less-NotIn : (k n : ℕ) (ms : List ℕ) → NotIn k ms → NotIn k (less n ms)
less-NotIn k n [] h = tt
less-NotIn k n (m ∷ ms) h = elim (cases_eq m n) as (λ _. NotIn k (cond (m == n) (less n ms) (m ∷ less n ms))) [
  | inl e ↦ rw (eq-eqb m n e) (less-NotIn k n ms h.1)
  | inr ne ↦ rw (ne_eqb m n ne) (h.0, less-NotIn k n ms h.1)
]

less-Distinct : (n : ℕ) (ms : List ℕ) → Distinct ms → Distinct (less n ms)
less-Distinct n [] d = tt
less-Distinct n (m ∷ ms) d = elim (cases_eq m n) as (λ _. Distinct (cond (m == n) (less n ms) (m ∷ less n ms))) [
  | inl e ↦ rw (eq-eqb m n e) (less-Distinct n ms d.1)
  | inr ne ↦ rw (ne_eqb m n ne) (less-NotIn m n ms d.0, less-Distinct n ms d.1)
]

smaller : (m n : ℕ) → m < suc n → (m ≡ n → ⊥) → m < n
smaller m n l ne = elim (cases_eq m n) [ inl e ↦ absurd (ne e) | inr _ ↦ omega (arith, l, ne) ]

less-below : (n : ℕ) (ms : List ℕ) → Each (λ m. m < suc n) ms → Each (λ m. m < n) (less n ms)
less-below n [] h = tt
less-below n (m ∷ ms) h = elim (cases_eq m n) as (λ _. Each (λ k. k < n) (cond (m == n) (less n ms) (m ∷ less n ms))) [
  | inl e ↦ rw (eq-eqb m n e) (less-below n ms h.1)
  | inr ne ↦ rw (ne_eqb m n ne) (smaller m n h.0 ne, less-below n ms h.1)
]

less-length : (n : ℕ) (ms : List ℕ) → Distinct ms → length ms ≤ suc (length (less n ms))
less-length n [] d = omega arith
less-length n (m ∷ ms) d = elim (cases_eq m n) as (λ _. length (m ∷ ms) ≤ suc (length (cond (m == n) (less n ms) (m ∷ less n ms)))) [
  | inl e ↦ rw (eq-eqb m n e) (let q : length (less n ms) ≡ length ms = ap length (less-same n ms (subst (λ k. NotIn k ms) e d.0)) in omega arith)
  | inr ne ↦ rw (ne_eqb m n ne) (let h : length ms ≤ suc (length (less n ms)) = less-length n ms d.1 in omega arith)
]

pub few_distinct : (n : ℕ) (ms : List ℕ) → Distinct ms → Each (λ m. m < n) ms → length ms ≤ n
few_distinct zero [] d h = omega arith
few_distinct zero (m ∷ ms) d h = absurd (let l : m < 0 = h.0 in omega arith)
few_distinct (suc n) ms d h =
    let a : length ms ≤ suc (length (less n ms)) = less-length n ms d in
    let b : length (less n ms) ≤ n = few_distinct n (less n ms) (less-Distinct n ms d) (less-below n ms h) in
    omega arith
