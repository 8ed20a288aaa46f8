-- Sums over lists of variables.
use Rattle.std.proofs.Common.{◌≡◌, ℕ, ◌+◌, ◌<◌, ◌≤◌, ◌==◌, List, [], ◌∷◌, refl, arith, sum_by, count_by, cond}
use Rattle.std.proofs.lemmas.Bool.Decides.{nat_tests}
use Rattle.std.proofs.lemmas.List.Sums.{sum_by-cons}

-- how often x is among them
abbrev pub occurrences : ℕ → List ℕ → ℕ
occurrences x ys = count_by (λ y. y == x) ys

-- the list without one occurrence of x
without : ℕ → List ℕ → List ℕ
without x [] = []
without x (y ∷ ys) = cond (y == x) ys (y ∷ without x ys)

without-cons : (x y : ℕ) (ys : List ℕ) → without x (y ∷ ys) ≡ cond (y == x) ys (y ∷ without x ys)
unfolding without
without-cons x y ys = refl

sum_by-without : (g : ℕ → ℕ) (x : ℕ) (ys : List ℕ) → 0 < occurrences x ys → sum_by g ys ≡ g x + sum_by g (without x ys)
sum_by-without g x [] h = absurd (omega arith)
sum_by-without g x (y ∷ ys) h =
    let ih = sum_by-without g x ys in
    let c = sum_by-cons g y ys in
    let o = sum_by-cons (λ z. cond (z == x) 1 0) y ys in
    let w = without-cons x y ys in
    let d = sum_by-cons g y (without x ys) in
    grind (arith, nat_tests)

is : ℕ → ℕ → ℕ
is z y = cond (y == z) 1 0

occurrences-cons : (z y : ℕ) (ys : List ℕ) → occurrences z (y ∷ ys) ≡ is z y + occurrences z ys
unfolding is
occurrences-cons z y ys = sum_by-cons (λ y. cond (y == z) 1 0) y ys

occurrences-without : (x z : ℕ) (ys : List ℕ) → 0 < occurrences x ys → occurrences z ys ≡ is z x + occurrences z (without x ys)
unfolding is
occurrences-without x z ys h = sum_by-without (λ y. cond (y == z) 1 0) x ys h

is-same : (x : ℕ) → is x x ≡ 1
unfolding is
is-same x = grind (arith, nat_tests)

-- a list that has each number as often has as large a sum
pub sum_by-le : (g : ℕ → ℕ) (xs ys : List ℕ) → ((x : ℕ) → occurrences x xs ≤ occurrences x ys) → sum_by g xs ≤ sum_by g ys
sum_by-le g [] ys h = omega arith
sum_by-le g (x ∷ xs) ys h =
    let some : 0 < occurrences x ys = omega (arith, h x, occurrences-cons x x xs, is-same x) in
    omega (arith, sum_by-cons g x xs, sum_by-without g x ys some, sum_by-le g xs (without x ys) (λ z. omega (arith, h z, occurrences-cons z x xs, occurrences-without x z ys some)))

pub sum_zero : (f : ℕ → ℕ) (xs : List ℕ) → ((x : ℕ) → f x ≡ 0) → sum_by f xs ≡ 0
sum_zero f [] h = refl
sum_zero f (x ∷ xs) h = omega (arith, sum_by-cons f x xs, h x, sum_zero f xs h)
