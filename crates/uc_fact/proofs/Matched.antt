-- A match is determined by its pattern and its term.
use Rattle.std.proofs.Common.{◌≡◌, ℕ, ◌==◌, ◌||◌, Bool, true, false, List, [], ◌∷◌, if◌then◌else◌, Some, unwrap_or, refl, sym, ap, ap₂, ◌∙◌, ◌⊎◌, inl, inr}
use Rattle.std.proofs.lemmas.Bool.{eqb-true, eq-eqb}
use Rattle.uc_term.specs.Tree.{Tree, var}
use Rattle.uc_term.specs.Subst.{found, image, domain}
use Rattle.uc_term.specs.Variables.{is_among, variables, firsts, firsts_after}
use Rattle.uc_term.proofs.Agree.{agree_at}
use Rattle.uc_term.proofs.Pairs.{found_here}
use Rattle.uc_unify.specs.Matching.{IsMatch}
use Rattle.uc_fact.proofs.Occurring.{either, occurs}

abbrev Pairs : Type 0
Pairs = List (ℕ × Tree)

-- no number stands twice
abbrev Differ : List ℕ → Type 0
Differ [] = Unit {0}
Differ (x ∷ xs) = (is_among x xs ≡ false) × Differ xs

-- the first ones are none of those that were seen, and are among the list
not_seen : (seen xs : List ℕ) (y : ℕ) → is_among y seen ≡ true → is_among y (firsts_after seen xs) ≡ false
not_seen seen [] y h = refl
not_seen seen (x ∷ xs) y h = go (is_among x seen) refl (not_seen seen xs y h) (not_seen (x ∷ seen) xs y (right (y == x) (is_among y seen) h))
  where
    right : (a b : Bool) → b ≡ true → (a || b) ≡ true
    right true b e = refl
    right false b e = e

    differs : (c : Bool) → (y == x) ≡ c → is_among x seen ≡ false → c ≡ false
    differs false e n = refl
    differs true e n = absurd (let both : true ≡ false = sym h ∙ ap (λ z. is_among z seen) (eqb-true y x e) ∙ n in cc)

    go : (b : Bool) → is_among x seen ≡ b → is_among y (firsts_after seen xs) ≡ false → is_among y (firsts_after (x ∷ seen) xs) ≡ false → is_among y (if b then firsts_after seen xs else x ∷ firsts_after (x ∷ seen) xs) ≡ false
    go true s e f = e
    go false s e f = ap₂ (λ a b. a || b) (differs (y == x) refl s) f

firsts_differ : (seen xs : List ℕ) → Differ (firsts_after seen xs)
firsts_differ seen [] = tt
firsts_differ seen (x ∷ xs) = go (is_among x seen) (firsts_differ seen xs) (firsts_differ (x ∷ seen) xs)
  where
    itself : is_among x (x ∷ seen) ≡ true
    itself = ap (λ b. b || is_among x seen) (eq-eqb x x refl)

    go : (b : Bool) → Differ (firsts_after seen xs) → Differ (firsts_after (x ∷ seen) xs) → Differ (if b then firsts_after seen xs else x ∷ firsts_after (x ∷ seen) xs)
    go true d e = d
    go false d e = (not_seen (x ∷ seen) xs x itself, e)

right : (a b : Bool) → b ≡ true → (a || b) ≡ true
right true b e = refl
right false b e = e

pub first_is_one : (seen xs : List ℕ) (y : ℕ) → is_among y (firsts_after seen xs) ≡ true → is_among y xs ≡ true
first_is_one seen [] y h = h
first_is_one seen (x ∷ xs) y h = go (is_among x seen) (first_is_one seen xs y) (first_is_one (x ∷ seen) xs y) h
  where
    later : (is_among y (firsts_after (x ∷ seen) xs) ≡ true → is_among y xs ≡ true) → ((y == x) ≡ true) ⊎ (is_among y (firsts_after (x ∷ seen) xs) ≡ true) → is_among y (x ∷ xs) ≡ true
    later k (inl e) = ap (λ b. b || is_among y xs) e
    later k (inr e) = right (y == x) (is_among y xs) (k e)

    go : (b : Bool) → (is_among y (firsts_after seen xs) ≡ true → is_among y xs ≡ true) → (is_among y (firsts_after (x ∷ seen) xs) ≡ true → is_among y xs ≡ true) → is_among y (if b then firsts_after seen xs else x ∷ firsts_after (x ∷ seen) xs) ≡ true → is_among y (x ∷ xs) ≡ true
    go true k l e = right (y == x) (is_among y xs) (k e)
    go false k l e = later l (either (y == x) (is_among y (firsts_after (x ∷ seen) xs)) e)

-- pairs of the same variables, all different, with the same images are the same
image_here : (p : ℕ × Tree) (ps : Pairs) → image (p ∷ ps) p.0 ≡ p.1
image_here p ps = ap (λ o. unwrap_or o (var p.0)) (found_here p.0 p.1 ps)

image_past : (p : ℕ × Tree) (ps : Pairs) (y : ℕ) → (p.0 == y) ≡ false → image (p ∷ ps) y ≡ image ps y
image_past p ps y e = ap (λ (b : Bool). unwrap_or (if b then Some p.1 else found ps y) (var y)) e

pub same_pairs : (xs : List ℕ) (a b : Pairs) → Differ xs → domain a ≡ xs → domain b ≡ xs → ((x : ℕ) → is_among x xs ≡ true → image a x ≡ image b x) → a ≡ b
same_pairs [] [] [] d e f h = refl
same_pairs [] [] (q ∷ b) d e f h = absurd cc
same_pairs [] (p ∷ a) b d e f h = absurd cc
same_pairs (x ∷ xs) [] b d e f h = absurd cc
same_pairs (x ∷ xs) (p ∷ a) [] d e f h = absurd cc
same_pairs (x ∷ xs) (p ∷ a) (q ∷ b) d e f h = ap₂ (λ r c. r ∷ c) one (same_pairs xs a b d.1 (cc) (cc) rest)
  where
    px : p.0 ≡ x
    px = cc

    qx : q.0 ≡ x
    qx = cc

    here : is_among x (x ∷ xs) ≡ true
    here = ap (λ b. b || is_among x xs) (eq-eqb x x refl)

    images : p.1 ≡ q.1
    images = sym (image_here p a) ∙ ap (image (p ∷ a)) px ∙ h x here ∙ ap (image (q ∷ b)) (sym qx) ∙ image_here q b

    one : p ≡ q
    one = ap₂ (λ n t. (n, t)) (px ∙ sym qx) images

    other : (r : ℕ × Tree) (y : ℕ) → r.0 ≡ x → is_among y xs ≡ true → (r.0 == y) ≡ false
    other r y rx m = go (r.0 == y) refl
      where
        go : (c : Bool) → (r.0 == y) ≡ c → c ≡ false
        go false e = refl
        go true e = absurd (let both : true ≡ false = sym m ∙ ap (λ z. is_among z xs) (sym (eqb-true r.0 y e) ∙ rx) ∙ d.0 in cc)

    right : (u v : Bool) → v ≡ true → (u || v) ≡ true
    right true v e = refl
    right false v e = e

    rest : (y : ℕ) → is_among y xs ≡ true → image a y ≡ image b y
    rest y m = sym (image_past p a y (other p y px m)) ∙ h y (right (y == x) (is_among y xs) m) ∙ image_past q b y (other q y qx m)

pub one_match : (pattern t : Tree) (a b : Pairs) → IsMatch pattern t a → IsMatch pattern t b → a ≡ b
one_match pattern t a b m n = same_pairs (firsts (variables pattern)) a b (firsts_differ [] (variables pattern)) m.pairs_are n.pairs_are (λ x h. agree_at (image a) (image b) x pattern (occurs x pattern (first_is_one [] (variables pattern) x h)) (m.gives ∙ sym n.gives))
