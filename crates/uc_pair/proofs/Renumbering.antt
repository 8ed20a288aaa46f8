-- Terms that are instances of one another are equal once their variables are numbered by first occurrence.
use Rattle.std.proofs.Common.{◌≡◌, ℕ, ◌+◌, ◌==◌, ◌||◌, Bool, true, false, List, [], ◌∷◌, ◌++◌, map, if◌then◌else◌, refl, sym, ap, ap₂, ◌∙◌, ◌⊎◌, inl, inr}
use Rattle.std.proofs.lemmas.Bool.{eqb-true, eq-eqb}
use Rattle.std.proofs.lemmas.List.{map-append}
use Rattle.uc_term.specs.Tree.{Tree, var, app, Trees, none, more, apply}
use Rattle.uc_term.specs.Variables.{Occurs, variables, variables_all, is_among, firsts_after, firsts, place_of, renumbered_by}
use Rattle.uc_term.proofs.Terms.{apply-apply, apply-var}
use Rattle.uc_term.proofs.Agree.{agree_at, same_if}
use Rattle.uc_term.proofs.Firsts.{is_among-append}
use Rattle.uc_fact.specs.declared.fact.Overlap.{Overlap}
use Rattle.uc_fact.specs.declared.chain.Chain.{Chain}
use Rattle.uc_fact.proofs.Occurring.{occurs, either}
use Rattle.uc_pair.specs.Reading.{renamed, renamed_all}
use Rattle.uc_pair.specs.Pairs.{names_of, chain_by, IsNumbered}
use Rattle.uc_pair.proofs.Renaming.{apply-renamed}

number_of : Tree → ℕ
number_of (var x) = x
number_of (app f ts) = 0

-- each variable of a term that is an instance of its instance is renamed
renamed_back : (α : ℕ → Tree) (x : ℕ) (u : Tree) → apply α u ≡ var x → (u ≡ var (number_of u)) × (number_of (α (number_of u)) ≡ x)
unfolding number_of
renamed_back α x (var z) e = (refl, ap number_of e)
renamed_back α x (app f ts) e = absurd cc

mutual
  variables-renamed : (f : ℕ → ℕ) (t : Tree) → variables (renamed f t) ≡ map f (variables t)
  variables-renamed f (var x) = refl
  variables-renamed f (app g ts) = variables_all-renamed f ts

  variables_all-renamed : (f : ℕ → ℕ) (ts : Trees) → variables_all (renamed_all f ts) ≡ map f (variables_all ts)
  variables_all-renamed f none = refl
  variables_all-renamed f (more t ts) = ap₂ (λ a b. a ++ b) (variables-renamed f t) (variables_all-renamed f ts) ∙ sym (map-append f (variables t) (variables_all ts))

test_or_not : (b : Bool) → (b ≡ true) ⊎ (b ≡ false)
test_or_not true = inl refl
test_or_not false = inr refl

-- numbers that are renamed and renamed back
module _ (f g : ℕ → ℕ) where
  abbrev Back : List ℕ → Type 0
  Back xs = (x : ℕ) → is_among x xs ≡ true → g (f x) ≡ x

  head : (y : ℕ) (ys : List ℕ) → Back (y ∷ ys) → g (f y) ≡ y
  head y ys h = h y (ap (λ b. b || is_among y ys) (eq-eqb y y refl))

  tail : (y : ℕ) (ys : List ℕ) → Back (y ∷ ys) → Back ys
  tail y ys h x e = h x (go (x == y) e)
    where
      go : (b : Bool) → is_among x ys ≡ true → (b || is_among x ys) ≡ true
      go true q = refl
      go false q = q

  same_test : (x y : ℕ) → g (f x) ≡ x → g (f y) ≡ y → (f x == f y) ≡ (x == y)
  same_test x y a b = go (test_or_not (x == y)) (test_or_not (f x == f y))
    where
      go : ((x == y) ≡ true) ⊎ ((x == y) ≡ false) → ((f x == f y) ≡ true) ⊎ ((f x == f y) ≡ false) → (f x == f y) ≡ (x == y)
      go (inl p) q = eq-eqb (f x) (f y) (ap f (eqb-true x y p)) ∙ sym p
      go (inr p) (inl q) =
          let same : x ≡ y = sym a ∙ ap g (eqb-true (f x) (f y) q) ∙ b in
          let both : true ≡ false = sym (eq-eqb x y same) ∙ p in
          absurd cc
      go (inr p) (inr q) = q ∙ sym p

  among-map : (xs : List ℕ) (x : ℕ) → Back xs → g (f x) ≡ x → is_among (f x) (map f xs) ≡ is_among x xs
  among-map [] x h e = refl
  among-map (y ∷ ys) x h e = ap₂ (λ a b. a || b) (same_test x y e (head y ys h)) (among-map ys x (tail y ys h) e)

  place-map : (xs : List ℕ) (x : ℕ) → Back xs → g (f x) ≡ x → place_of (map f xs) (f x) ≡ place_of xs x
  place-map [] x h e = refl
  place-map (y ∷ ys) x h e = ap₂ (λ (b : Bool) (n : ℕ). if b then 0 else n + 1) (same_test x y e (head y ys h)) (place-map ys x (tail y ys h) e)

  cons_back : (x : ℕ) (xs : List ℕ) → g (f x) ≡ x → Back xs → Back (x ∷ xs)
  cons_back x xs e h y q = go (either (y == x) (is_among y xs) q)
    where
      go : ((y == x) ≡ true) ⊎ (is_among y xs ≡ true) → g (f y) ≡ y
      go (inl p) = let same : y ≡ x = eqb-true y x p in ap (λ z. g (f z)) same ∙ e ∙ sym same
      go (inr p) = h y p

  firsts_after-map : (seen xs : List ℕ) → Back seen → Back xs → firsts_after (map f seen) (map f xs) ≡ map f (firsts_after seen xs)
  firsts_after-map seen [] s h = refl
  firsts_after-map seen (x ∷ xs) s h =
      let e = head x xs h in
      go (is_among (f x) (map f seen)) (is_among x seen) (among-map seen x s e) (firsts_after-map seen xs s (tail x xs h)) (firsts_after-map (x ∷ seen) xs (cons_back x seen e s) (tail x xs h))
    where
      go : (a b : Bool) → a ≡ b → firsts_after (map f seen) (map f xs) ≡ map f (firsts_after seen xs) → firsts_after (map f (x ∷ seen)) (map f xs) ≡ map f (firsts_after (x ∷ seen) xs) → (if a then firsts_after (map f seen) (map f xs) else f x ∷ firsts_after (f x ∷ map f seen) (map f xs)) ≡ map f (if b then firsts_after seen xs else x ∷ firsts_after (x ∷ seen) xs)
      go true true p k l = k
      go true false p k l = absurd cc
      go false true p k l = absurd cc
      go false false p k l = ap (λ ys. f x ∷ ys) l

  firsts-map : (xs : List ℕ) → Back xs → firsts (map f xs) ≡ map f (firsts xs)
  firsts-map xs h = firsts_after-map [] xs (λ x e. absurd cc) h

among_firsts_back : (seen xs : List ℕ) (x : ℕ) → is_among x (firsts_after seen xs) ≡ true → is_among x xs ≡ true
among_firsts_back seen [] x e = e
among_firsts_back seen (y ∷ ys) x e = go (is_among y seen) e (among_firsts_back seen ys x) (among_firsts_back (y ∷ seen) ys x)
  where
    right : (b : Bool) → is_among x ys ≡ true → (b || is_among x ys) ≡ true
    right true q = refl
    right false q = q

    both : (b : Bool) (p : Bool) → (p ≡ true → is_among x ys ≡ true) → (b || p) ≡ true → (b || is_among x ys) ≡ true
    both true p h q = refl
    both false p h q = h q

    go : (b : Bool) → is_among x (if b then firsts_after seen ys else y ∷ firsts_after (y ∷ seen) ys) ≡ true → (is_among x (firsts_after seen ys) ≡ true → is_among x ys ≡ true) → (is_among x (firsts_after (y ∷ seen) ys) ≡ true → is_among x ys ≡ true) → ((x == y) || is_among x ys) ≡ true
    go true q h k = right (x == y) (h q)
    go false q h k = both (x == y) (is_among x (firsts_after (y ∷ seen) ys)) k q

-- l, r and top are instances of others by α, and these are instances of them by β
module _ (l r top l' r' top' : Tree) (α β : ℕ → Tree) (el : l ≡ apply α l') (er : r ≡ apply α r') (et : top ≡ apply α top') (el' : l' ≡ apply β l) (er' : r' ≡ apply β r) (et' : top' ≡ apply β top) where
  there : ℕ → ℕ
  there x = number_of (β x)

  back : ℕ → ℕ
  back y = number_of (α y)

  one_term : (t t' : Tree) → t ≡ apply α t' → t' ≡ apply β t → (x : ℕ) → Occurs x t → (β x ≡ var (there x)) × (back (there x) ≡ x)
  unfolding there back
  one_term t t' e f x o = renamed_back α x (β x) (agree_at (λ y. apply α (β y)) var x t o (sym (apply-apply α β t) ∙ ap (apply α) (sym f) ∙ sym e ∙ sym (apply-var t)))

  term_there : (t t' : Tree) → t ≡ apply α t' → t' ≡ apply β t → t' ≡ renamed there t
  term_there t t' e f = f ∙ same_if β (λ x. var (there x)) t (λ x o. (one_term t t' e f x o).0)

  pub is_renamed : (t t' : Tree) → t ≡ apply α t' → t' ≡ apply β t → (f : ℕ → ℕ) × (t' ≡ renamed f t)
  is_renamed t t' e f = (there, term_there t t' e f)

  abbrev all : List ℕ
  all = variables l ++ (variables r ++ variables top)

  all_back : Back there back all
  all_back x e = go (either (is_among x (variables l)) (is_among x (variables r ++ variables top)) (sym (is_among-append x (variables l) (variables r ++ variables top)) ∙ e))
    where
      rest : (is_among x (variables r) ≡ true) ⊎ (is_among x (variables top) ≡ true) → back (there x) ≡ x
      rest (inl q) = (one_term r r' er er' x (occurs x r q)).1
      rest (inr q) = (one_term top top' et et' x (occurs x top q)).1

      go : (is_among x (variables l) ≡ true) ⊎ (is_among x (variables r ++ variables top) ≡ true) → back (there x) ≡ x
      go (inl q) = (one_term l l' el el' x (occurs x l q)).1
      go (inr q) = rest (either (is_among x (variables r)) (is_among x (variables top)) (sym (is_among-append x (variables r) (variables top)) ∙ q))

  names_there : names_of l' r' top' ≡ map there (names_of l r top)
  names_there =
      ap firsts (ap₂ (λ a b. a ++ b) (ap variables (term_there l l' el el') ∙ variables-renamed there l)
      (ap₂ (λ a b. a ++ b) (ap variables (term_there r r' er er') ∙ variables-renamed there r) (ap variables (term_there top top' et et') ∙ variables-renamed there top) ∙ sym (map-append there (variables r) (variables top)))
      ∙ sym (map-append there (variables l) (variables r ++ variables top)))
      ∙ firsts-map there back all all_back

  names_back : Back there back (names_of l r top)
  names_back x e = all_back x (among_firsts_back [] all x e)

  pub same_numbered : (t t' : Tree) → t ≡ apply α t' → t' ≡ apply β t → renumbered_by (names_of l' r' top') t' ≡ renumbered_by (names_of l r top) t
  same_numbered t t' e f =
      ap₂ renumbered_by names_there (term_there t t' e f)
      ∙ apply-renamed (λ y. var (place_of (map there (names_of l r top)) y)) there t
      ∙ same_if (λ x. var (place_of (map there (names_of l r top)) (there x))) (λ x. var (place_of (names_of l r top) x)) t
      (λ x o. ap var (place-map there back (names_of l r top) x names_back (one_term t t' e f x o).1))

  pub numbered_alike : (overlap : Overlap) (place : ℕ) (left right : Tree) (chain : Chain) → IsNumbered overlap top' l' r' place left right chain → IsNumbered overlap top l r place left right chain
  numbered_alike overlap place left right chain n = record {
    left_is = n.left_is ∙ same_numbered l l' el el';
    right_is = n.right_is ∙ same_numbered r r' er er';
    chain_is = n.chain_is ∙ ap (λ t. chain_by overlap place left t right) (same_numbered top top' et et');
  }
