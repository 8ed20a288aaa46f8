-- Variables that are numbered by first occurrence, counted from left to right.
use Rattle.std.proofs.Common.{◌≡◌, ℕ, ◌+◌, ◌≤◌, ◌<◌, ◌^◌, ◌==◌, ◌||◌, Bool, true, false, List, [], ◌∷◌, ◌++◌, refl, sym, ap, ap₂, ◌∙◌, subst, arith}
use Rattle.std.specs.Prelude.{max}
use Rattle.std.proofs.lemmas.Bool.{eqb-true, eq-eqb, or_right}
use Rattle.std.proofs.lemmas.Bool.Decides.{nat_tests}
use Rattle.uc_term.specs.declared.equation.Equation.{Equation}
use Rattle.uc_term.specs.Tree.{Tree, var, app, Trees, none, more, apply_all}
use Rattle.uc_term.specs.Variables.{variables, variables_all, is_among, firsts_after, place_of, renumbered_by}
use Rattle.uc_term.proofs.Firsts.{is_among-append}
use Rattle.uc_clause.specs.Printable.{AreNumbered}
use Rattle.uc_system.specs.Facts.{fact_variables, IsInOrder}

-- how many variables are seen behind these
abbrev pub seen_after : ℕ → List ℕ → ℕ
seen_after s [] = s
seen_after s (x ∷ xs) = seen_after (max s (x + 1)) xs

-- each of these is one of those seen before it, or the next one
abbrev pub Counts : ℕ → List ℕ → Type 0
Counts s [] = Unit {0}
Counts s (x ∷ xs) = (x ≤ s) × Counts (max s (x + 1)) xs

pub after_both : (s : ℕ) (xs ys : List ℕ) → seen_after s (xs ++ ys) ≡ seen_after (seen_after s xs) ys
after_both s [] ys = refl
after_both s (x ∷ xs) ys = after_both (max s (x + 1)) xs ys

pub counts_both : (s : ℕ) (xs ys : List ℕ) → Counts s xs → Counts (seen_after s xs) ys → Counts s (xs ++ ys)
counts_both s [] ys c d = d
counts_both s (x ∷ xs) ys c d = (c.0, counts_both (max s (x + 1)) xs ys c.1 d)

pub counts_split : (s : ℕ) (xs ys : List ℕ) → Counts s (xs ++ ys) → Counts s xs × Counts (seen_after s xs) ys
counts_split s [] ys c = (tt, c)
counts_split s (x ∷ xs) ys c = let r = counts_split (max s (x + 1)) xs ys c.1 in ((c.0, r.0), r.1)

-- the greatest of them has 32 bits where their count has
seen_grows : (s : ℕ) (xs : List ℕ) → s ≤ seen_after s xs
seen_grows s [] = omega arith
seen_grows s (x ∷ xs) = omega (arith, seen_grows (max s (x + 1)) xs)

pub counts_numbered : (s : ℕ) (xs : List ℕ) → Counts s xs → seen_after s xs ≤ 2 ^ 32 → AreNumbered xs
counts_numbered s [] c h = tt
counts_numbered s (x ∷ xs) c h = (omega (arith, seen_grows (max s (x + 1)) xs), counts_numbered (max s (x + 1)) xs c.1 h)

-- the seen numbers are those below the count
abbrev AreBelow : List ℕ → ℕ → Type 0
AreBelow seen s = (x : ℕ) → is_among x seen ≡ true → x < s

abbrev AreAll : List ℕ → ℕ → Type 0
AreAll seen s = (x : ℕ) → x < s → is_among x seen ≡ true

own : (x : ℕ) (xs : List ℕ) → is_among x (x ∷ xs) ≡ true
own x xs = ap (λ b. b || is_among x xs) (eq-eqb x x refl)

later : (x y : ℕ) (ys : List ℕ) → is_among x ys ≡ true → is_among x (y ∷ ys) ≡ true
later x y ys h = or_right (x == y) _ h

below_more : (seen : List ℕ) (s : ℕ) → AreBelow seen s → AreBelow (s ∷ seen) (s + 1)
below_more seen s h x a = by_test (x == s) refl a
  where
    by_test : (b : Bool) → (x == s) ≡ b → (b || is_among x seen) ≡ true → x < s + 1
    by_test true e k = omega (arith, eqb-true x s e)
    by_test false e k = omega (arith, h x k)

all_more : (seen : List ℕ) (s : ℕ) → AreAll seen s → AreAll (s ∷ seen) (s + 1)
all_more seen s h x l = by_test (x == s) refl
  where
    by_test : (b : Bool) → (x == s) ≡ b → (b || is_among x seen) ≡ true
    by_test true e = refl
    by_test false e = h x (grind (arith, nat_tests))

first_seen : (seen : List ℕ) (y : ℕ) (ys : List ℕ) → is_among y seen ≡ true → firsts_after seen (y ∷ ys) ≡ firsts_after seen ys
first_seen seen y ys e = rw e refl

first_new : (seen : List ℕ) (y : ℕ) (ys : List ℕ) → is_among y seen ≡ false → firsts_after seen (y ∷ ys) ≡ y ∷ firsts_after (y ∷ seen) ys
first_new seen y ys e = rw e refl

place_first : (y : ℕ) (ys : List ℕ) → place_of (y ∷ ys) y ≡ 0
place_first y ys = rw (eq-eqb y y refl) refl

place_later : (x y : ℕ) (ys : List ℕ) → (x == y) ≡ false → place_of (y ∷ ys) x ≡ place_of ys x + 1
place_later x y ys e = rw e refl

-- the new ones of these stand at their numbers
abbrev AreInPlace : List ℕ → ℕ → List ℕ → Type 0
AreInPlace seen s xs = (x : ℕ) → is_among x xs ≡ true → s ≤ x → place_of (firsts_after seen xs) x + s ≡ x

abbrev RestInPlace : List ℕ → ℕ → Type 0
RestInPlace ys x = (more : List ℕ) (n : ℕ) → AreBelow more n → AreAll more n → Counts n ys → is_among x ys ≡ true → n ≤ x → place_of (firsts_after more ys) x + n ≡ x

-- what isn't seen is the next number, or a greater one
not_below : (seen : List ℕ) (s : ℕ) → AreAll seen s → (y : ℕ) → is_among y seen ≡ false → s ≤ y
not_below seen s all y e = by_less (λ l. true_or_false (all y l) e)
  where
    true_or_false : is_among y seen ≡ true → is_among y seen ≡ false → ⊥
    true_or_false t f = cc

    by_less : (y < s → ⊥) → s ≤ y
    by_less n = grind (arith, nat_tests)

above_one : (s x y : ℕ) → s ≡ y → s ≤ x → (x == y) ≡ false → s + 1 ≤ x
above_one s x y i l e = grind (arith, nat_tests)

next_one : (seen : List ℕ) (s : ℕ) → AreAll seen s → (y : ℕ) → y ≤ s → is_among y seen ≡ false → y ≡ s
next_one seen s all y h e = omega (arith, h, not_below seen s all y e)

-- counted, they do
counts_place : (xs seen : List ℕ) (s : ℕ) → AreBelow seen s → AreAll seen s → Counts s xs → AreInPlace seen s xs
counts_place [] seen s below all c x a l = absurd cc
counts_place (y ∷ ys) seen s below all c x a l = by_seen (is_among y seen) refl (λ more n b m k. counts_place ys more n b m k x)
  where
    by_old : (b : Bool) → (x == y) ≡ b → (b || is_among x ys) ≡ true → is_among y seen ≡ true → RestInPlace ys x → place_of (firsts_after seen ys) x + s ≡ x
    by_old true e k i rest = absurd (omega (arith, eqb-true x y e, below y i, l))
    by_old false e k i rest = rest seen s below all (subst (λ n. Counts n ys) (omega (arith, below y i)) c.1) k l

    by_new : (b : Bool) → (x == y) ≡ b → (b || is_among x ys) ≡ true → y ≡ s → RestInPlace ys x → place_of (y ∷ firsts_after (y ∷ seen) ys) x + s ≡ x
    by_new true e k i rest = let same : x ≡ y = eqb-true x y e in let none_before : place_of (y ∷ firsts_after (y ∷ seen) ys) x ≡ 0 = ap (place_of (y ∷ firsts_after (y ∷ seen) ys)) same ∙ place_first y (firsts_after (y ∷ seen) ys) in omega (arith, same, i, none_before)
    by_new false e k i rest =
        let above : s + 1 ≤ x = above_one s x y (sym i) l e in
        let behind = rest (s ∷ seen) (s + 1) (below_more seen s below) (all_more seen s all) (subst (λ n. Counts n ys) (omega (arith, i)) c.1) k above in
        let moved : place_of (firsts_after (y ∷ seen) ys) x + (s + 1) ≡ x = subst (λ z. place_of (firsts_after (z ∷ seen) ys) x + (s + 1) ≡ x) (sym i) behind in
        omega (arith, place_later x y (firsts_after (y ∷ seen) ys) e, moved)

    by_seen : (b : Bool) → is_among y seen ≡ b → RestInPlace ys x → place_of (firsts_after seen (y ∷ ys)) x + s ≡ x
    by_seen true e rest = ap (λ q. place_of q x + s) (first_seen seen y ys e) ∙ by_old (x == y) refl a e rest
    by_seen false e rest = ap (λ q. place_of q x + s) (first_new seen y ys e) ∙ by_new (x == y) refl a (next_one seen s all y c.0 e) rest

-- standing there, they are counted
place_counts : (xs seen : List ℕ) (s : ℕ) → AreBelow seen s → AreAll seen s → AreInPlace seen s xs → Counts s xs
place_counts [] seen s below all h = tt
place_counts (y ∷ ys) seen s below all h = by_seen (is_among y seen) refl (λ more n b m k. place_counts ys more n b m k)
  where
    kept : is_among y seen ≡ true → AreInPlace seen s ys
    kept e x a l = ap (λ z. place_of z x + s) (sym (first_seen seen y ys e)) ∙ h x (later x y ys a) l

    is_next : is_among y seen ≡ false → s ≤ y → y ≡ s
    is_next e l = let p : place_of (firsts_after seen (y ∷ ys)) y + s ≡ y = h y (own y ys) l in let q : place_of (firsts_after seen (y ∷ ys)) y ≡ 0 = ap (λ z. place_of z y) (first_new seen y ys e) ∙ place_first y (firsts_after (y ∷ seen) ys) in omega (arith, p, q)

    not_same : (x : ℕ) → y < x → (x == y) ≡ false
    not_same x l = grind (arith, nat_tests)

    moved : is_among y seen ≡ false → y ≡ s → AreInPlace (s ∷ seen) (s + 1) ys
    moved e i x a l =
        let p : place_of (firsts_after seen (y ∷ ys)) x + s ≡ x = h x (later x y ys a) (omega (arith, l)) in
        let q : place_of (firsts_after seen (y ∷ ys)) x ≡ place_of (firsts_after (y ∷ seen) ys) x + 1 = ap (λ z. place_of z x) (first_new seen y ys e) ∙ place_later x y (firsts_after (y ∷ seen) ys) (not_same x (omega (arith, i, l))) in
        let r : place_of (firsts_after (s ∷ seen) ys) x ≡ place_of (firsts_after (y ∷ seen) ys) x = ap (λ z. place_of (firsts_after (z ∷ seen) ys) x) (sym i) in
        omega (arith, p, q, r)

    by_seen : (b : Bool) → is_among y seen ≡ b → ((more : List ℕ) (n : ℕ) → AreBelow more n → AreAll more n → AreInPlace more n ys → Counts n ys) → (y ≤ s) × Counts (max s (y + 1)) ys
    by_seen true e rest = let l = below y e in (omega (arith, l), subst (λ n. Counts n ys) (omega (arith, l)) (rest seen s below all (kept e)))
    by_seen false e rest = let i = is_next e (not_below seen s all y e) in (omega (arith, i), subst (λ n. Counts n ys) (omega (arith, i)) (rest (s ∷ seen) (s + 1) (below_more seen s below) (all_more seen s all) (moved e i)))

-- TERMS

in_one : (a b : Bool) (Aim : Type 0) → (a || b) ≡ true → (a ≡ true → Aim) → (b ≡ true → Aim) → Aim
in_one true b Aim h f g = f refl
in_one false b Aim h f g = g h

or_front : (a b : Bool) → a ≡ true → (a || b) ≡ true
or_front a b h = rw h refl

module _ (fs : List ℕ) where
  mutual
    in_place : (t : Tree) → renumbered_by fs t ≡ t → (x : ℕ) → is_among x (variables t) ≡ true → place_of fs x ≡ x
    in_place (var y) e x a = by_test (x == y) refl a
      where
        by_test : (b : Bool) → (x == y) ≡ b → (b || false) ≡ true → place_of fs x ≡ x
        by_test true t k = let same : x ≡ y = eqb-true x y t in let places : place_of fs y ≡ y = cc in ap (place_of fs) same ∙ places ∙ sym same
        by_test false t k = absurd cc
    in_place (app f ts) e x a = all_in_place ts (same_args f (apply_all (λ y. var (place_of fs y)) ts) ts e) x a
      where
        same_args : (f : _) (us vs : Trees) → app f us ≡ app f vs → us ≡ vs
        same_args f us vs e = cc

    all_in_place : (ts : Trees) → apply_all (λ y. var (place_of fs y)) ts ≡ ts → (x : ℕ) → is_among x (variables_all ts) ≡ true → place_of fs x ≡ x
    all_in_place none e x a = absurd cc
    all_in_place (more t ts) e x a =
        let first : renumbered_by fs t ≡ t = cc in
        let rest : apply_all (λ y. var (place_of fs y)) ts ≡ ts = cc in
        in_one (is_among x (variables t)) (is_among x (variables_all ts)) (place_of fs x ≡ x) (sym (is_among-append x (variables t) (variables_all ts)) ∙ a) (in_place t first x) (all_in_place ts rest x)

  mutual
    place_in : (t : Tree) → ((x : ℕ) → is_among x (variables t) ≡ true → place_of fs x ≡ x) → renumbered_by fs t ≡ t
    place_in (var y) h = ap var (h y (own y []))
    place_in (app f ts) h = ap (app f) (all_place_in ts h)

    all_place_in : (ts : Trees) → ((x : ℕ) → is_among x (variables_all ts) ≡ true → place_of fs x ≡ x) → apply_all (λ y. var (place_of fs y)) ts ≡ ts
    all_place_in none h = refl
    all_place_in (more t ts) h = ap₂ more (place_in t (λ x a. h x (is_among-append x (variables t) (variables_all ts) ∙ or_front _ _ a))) (all_place_in ts (λ x a. h x (is_among-append x (variables t) (variables_all ts) ∙ or_right (is_among x (variables t)) _ a)))

no_below : AreBelow [] 0
no_below x a = absurd cc

no_all : AreAll [] 0
no_all x l = absurd (omega arith)

abbrev pub both_variables : Equation → List ℕ
both_variables e = variables e.left ++ variables e.right

pub order_counts : (e : Equation) → IsInOrder e → Counts 0 (both_variables e)
order_counts e o = place_counts (both_variables e) [] 0 no_below no_all (λ x a l. place x a)
  where
    place : (x : ℕ) → is_among x (both_variables e) ≡ true → place_of (firsts_after [] (both_variables e)) x + 0 ≡ x
    place x a = in_one (is_among x (variables e.left)) (is_among x (variables e.right)) (place_of (firsts_after [] (both_variables e)) x + 0 ≡ x) (sym (is_among-append x (variables e.left) (variables e.right)) ∙ a)
        (λ h. omega (arith, in_place (fact_variables e) e.left o.left x h))
        (λ h. omega (arith, in_place (fact_variables e) e.right o.right x h))

pub counts_order : (e : Equation) → Counts 0 (both_variables e) → IsInOrder e
counts_order e c = record {
  left = place_in (fact_variables e) e.left (λ x a. place x (is_among-append x (variables e.left) (variables e.right) ∙ or_front _ _ a));
  right = place_in (fact_variables e) e.right (λ x a. place x (is_among-append x (variables e.left) (variables e.right) ∙ or_right (is_among x (variables e.left)) _ a));
}
  where
    place : (x : ℕ) → is_among x (both_variables e) ≡ true → place_of (fact_variables e) x ≡ x
    place x a = omega (arith, counts_place (both_variables e) [] 0 no_below no_all c x a (omega arith))
