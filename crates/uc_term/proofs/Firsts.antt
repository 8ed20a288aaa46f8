-- Laws of the numbers of a list, each once, by first occurrence.
use Rattle.std.proofs.Common.{◌≡◌, ℕ, ◌==◌, ◌||◌, Bool, true, false, List, [], ◌∷◌, ◌++◌, if◌then◌else◌, refl, sym, ap, ◌∙◌, append-nil}
use Rattle.uc_term.specs.Variables.{is_among, firsts_after, firsts}

or-assoc : (a b c : Bool) → ((a || b) || c) ≡ (a || (b || c))
or-assoc true b c = refl
or-assoc false b c = refl

or-swap : (a b c : Bool) → (a || (b || c)) ≡ (b || (a || c))
or-swap true true c = refl
or-swap true false c = refl
or-swap false true c = refl
or-swap false false c = refl

pub or-false : (a : Bool) → (a || false) ≡ a
or-false true = refl
or-false false = refl

pub is_among-append : (x : ℕ) (ys zs : List ℕ) → is_among x (ys ++ zs) ≡ (is_among x ys || is_among x zs)
is_among-append x [] zs = refl
is_among-append x (y ∷ ys) zs = ap (λ b. (x == y) || b) (is_among-append x ys zs) ∙ sym (or-assoc (x == y) (is_among x ys) (is_among x zs))

-- only what is among the seen ones counts
pub firsts_after-like : (s r : List ℕ) → ((x : ℕ) → is_among x s ≡ is_among x r) → (xs : List ℕ) → firsts_after s xs ≡ firsts_after r xs
firsts_after-like s r h [] = refl
firsts_after-like s r h (x ∷ xs) = rw (h x) (go (is_among x r) (firsts_after-like s r h xs) (firsts_after-like (x ∷ s) (x ∷ r) (λ y. ap (λ b. (y == x) || b) (h y)) xs))
  where
    go : (b : Bool) → firsts_after s xs ≡ firsts_after r xs → firsts_after (x ∷ s) xs ≡ firsts_after (x ∷ r) xs → (if b then firsts_after s xs else x ∷ firsts_after (x ∷ s) xs) ≡ (if b then firsts_after r xs else x ∷ firsts_after (x ∷ r) xs)
    go true e f = e
    go false e f = ap (λ l. x ∷ l) f

-- a number moved to the front of the seen ones
pub firsts_after-front : (x : ℕ) (s r ys : List ℕ) → firsts_after (s ++ x ∷ r) ys ≡ firsts_after (x ∷ (s ++ r)) ys
firsts_after-front x s r ys =
    firsts_after-like (s ++ x ∷ r) (x ∷ (s ++ r)) (λ y. is_among-append y s (x ∷ r) ∙ or-swap (is_among y s) (y == x) (is_among y r) ∙ ap (λ b. (y == x) || b) (sym (is_among-append y s r))) ys

pub firsts_after-append : (s xs ys : List ℕ) → firsts_after s (xs ++ ys) ≡ firsts_after s xs ++ firsts_after (firsts_after s xs ++ s) ys
firsts_after-append s [] ys = refl
firsts_after-append s (x ∷ xs) ys = go (is_among x s) (firsts_after-append s xs ys) (firsts_after-append (x ∷ s) xs ys)
  where
    go : (b : Bool) → firsts_after s (xs ++ ys) ≡ firsts_after s xs ++ firsts_after (firsts_after s xs ++ s) ys → firsts_after (x ∷ s) (xs ++ ys) ≡ firsts_after (x ∷ s) xs ++ firsts_after (firsts_after (x ∷ s) xs ++ x ∷ s) ys → (if b then firsts_after s (xs ++ ys) else x ∷ firsts_after (x ∷ s) (xs ++ ys)) ≡ (if b then firsts_after s xs else x ∷ firsts_after (x ∷ s) xs) ++ firsts_after ((if b then firsts_after s xs else x ∷ firsts_after (x ∷ s) xs) ++ s) ys
    go true e f = e
    go false e f = ap (λ l. x ∷ l) (f ∙ ap (λ l. firsts_after (x ∷ s) xs ++ l) (firsts_after-front x (firsts_after (x ∷ s) xs) s ys))

pub firsts-append : (xs ys : List ℕ) → firsts (xs ++ ys) ≡ firsts xs ++ firsts_after (firsts xs) ys
firsts-append xs ys = firsts_after-append [] xs ys ∙ ap (λ l. firsts xs ++ firsts_after l ys) (append-nil (firsts xs))
