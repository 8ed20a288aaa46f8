-- What stands against a pattern's variables decides whether a term is an instance of it.
use Rattle.std.proofs.Common.{◌≡◌, ℕ, ◌==◌, ◌+◌, ◌<◌, ◌≤◌, Bool, true, false, List, [], ◌∷◌, ◌++◌, Option, Some, None, unwrap_or, if◌then◌else◌, refl, sym, ap, ap₂, ◌∙◌, ◌⊎◌, inl, inr, arith, append_assoc, subst}
use Rattle.std.proofs.lemmas.Bool.{eqb-true}
use Rattle.uc_term.specs.Tree.{Tree, var, app, Trees, none, more, count, apply, apply_all}
use Rattle.uc_term.specs.Subst.{found, image}
use Rattle.uc_term.proofs.Ahead.{join}
use Rattle.uc_term.proofs.Pairs.{known, found_past, found_here}
use Rattle.uc_unify.specs.Matching.{HasNoMatch}
use Rattle.std.specs.List.{AllByRecursion}
use Rattle.uc_fact.specs.Against.{Fits, AllFit, against, against_all, HasMatch}

abbrev pub Pairs : Type 0
Pairs = List (ℕ × Tree)

abbrev pick : Bool → Tree → Option Tree → Option Tree
pick b t o = if b then Some t else o

pub each_append : {A : Type 0} (P : A → Type 0) (xs ys : List A) → AllByRecursion P xs → AllByRecursion P ys → AllByRecursion P (xs ++ ys)
each_append P [] ys h k = k
each_append P (x ∷ xs) ys h k = (h.0, each_append P xs ys h.1 k)

each_map : {A : Type 0} (P Q : A → Type 0) (xs : List A) → ((x : A) → P x → Q x) → AllByRecursion P xs → AllByRecursion Q xs
each_map P Q [] f h = tt
each_map P Q (x ∷ xs) f h = (f x h.0, each_map P Q xs f h.1)

each_left : {A : Type 0} (P : A → Type 0) (xs ys : List A) → AllByRecursion P (xs ++ ys) → AllByRecursion P xs
each_left P [] ys h = tt
each_left P (x ∷ xs) ys h = (h.0, each_left P xs ys h.1)

each_right : {A : Type 0} (P : A → Type 0) (xs ys : List A) → AllByRecursion P (xs ++ ys) → AllByRecursion P ys
each_right P [] ys h = h
each_right P (x ∷ xs) ys h = each_right P xs ys h.1

pub mapped : {A : Type 0} (P Q : A → Type 0) (xs : List A) → ((x : A) → P x → Q x) → AllByRecursion P xs → AllByRecursion Q xs
mapped = each_map

pub none_left : (ts : Trees) → 0 ≡ count ts → ts ≡ none
none_left none e = refl
none_left (more t ts) e = absurd (omega arith)

-- lists that fit are as long
pub count_of_fit : (ps ts : Trees) → AllFit ps ts → count ps ≡ count ts
count_of_fit none none h = refl
count_of_fit none (more t ts) h = elim h [ ]
count_of_fit (more p ps) none h = elim h [ ]
count_of_fit (more p ps) (more t ts) h = ap (λ n. n + 1) (count_of_fit ps ts h.1)

pub fit_join : (us bs cs ds : Trees) → count us ≡ count cs → AllFit us cs → AllFit bs ds → AllFit (join us bs) (join cs ds)
fit_join none bs none ds c a b = b
fit_join none bs (more v vs) ds c a b = absurd (omega arith)
fit_join (more u us) bs none ds c a b = absurd (omega arith)
fit_join (more u us) bs (more v vs) ds c a b = (a.0, fit_join us bs vs ds (omega arith) a.1 b)

pub fit_parts : (us bs cs ds : Trees) → count us ≡ count cs → AllFit (join us bs) (join cs ds) → AllFit us cs × AllFit bs ds
fit_parts none bs none ds c h = (tt, h)
fit_parts none bs (more v vs) ds c h = absurd (omega arith)
fit_parts (more u us) bs none ds c h = absurd (omega arith)
fit_parts (more u us) bs (more v vs) ds c h =
    let r = fit_parts us bs vs ds (omega arith) h.1 in
    ((h.0, r.0), r.1)

pub against_join : (us bs cs ds : Trees) → count us ≡ count cs → against_all us cs ++ against_all bs ds ≡ against_all (join us bs) (join cs ds)
against_join none bs none ds c = refl
against_join none bs (more v vs) ds c = absurd (omega arith)
against_join (more u us) bs none ds c = absurd (omega arith)
against_join (more u us) bs (more v vs) ds c = append_assoc (against u v) (against_all us vs) (against_all bs ds) ∙ ap (λ l. against u v ++ l) (against_join us bs vs ds (omega arith))

-- the pair has the variable's value
abbrev Gives : (ℕ → Tree) → ℕ × Tree → Type 0
Gives σ pair = σ pair.0 ≡ pair.1

module _ (σ : ℕ → Tree) where
  mutual
    fits_self : (p : Tree) → Fits p (apply σ p)
    fits_self (var x) = tt
    fits_self (app f ps) = (refl, fit_self ps)

    fit_self : (ps : Trees) → AllFit ps (apply_all σ ps)
    fit_self none = tt
    fit_self (more p ps) = (fits_self p, fit_self ps)

  mutual
    gives_self : (p : Tree) → AllByRecursion (Gives σ) (against p (apply σ p))
    gives_self (var x) = (refl, tt)
    gives_self (app f ps) = give_self ps

    give_self : (ps : Trees) → AllByRecursion (Gives σ) (against_all ps (apply_all σ ps))
    give_self none = tt
    give_self (more p ps) = each_append (Gives σ) (against p (apply σ p)) (against_all ps (apply_all σ ps)) (gives_self p) (give_self ps)

  -- an instance fits, and its variables' values stand against them
  pub fits_instance : (p t : Tree) → apply σ p ≡ t → Fits p t
  fits_instance p t e = subst (Fits p) e (fits_self p)

  gives_instance : (p t : Tree) → apply σ p ≡ t → AllByRecursion (Gives σ) (against p t)
  gives_instance p t e = subst (λ z. AllByRecursion (Gives σ) (against p z)) e (gives_self p)

  -- and the other way round
  mutual
    is_instance : (p t : Tree) → Fits p t → AllByRecursion (Gives σ) (against p t) → apply σ p ≡ t
    is_instance (var x) t f g = g.0
    is_instance (app f ps) (var y) h g = elim h [ ]
    is_instance (app f ps) (app k ts) h g = ap₂ app h.0 (are_instances ps ts h.1 g)

    are_instances : (ps ts : Trees) → AllFit ps ts → AllByRecursion (Gives σ) (against_all ps ts) → apply_all σ ps ≡ ts
    are_instances none none h g = refl
    are_instances none (more t ts) h g = elim h [ ]
    are_instances (more p ps) none h g = elim h [ ]
    are_instances (more p ps) (more t ts) h g = ap₂ more (is_instance p t h.0 (each_left (Gives σ) (against p t) (against_all ps ts) g)) (are_instances ps ts h.1 (each_right (Gives σ) (against p t) (against_all ps ts) g))

  value_found : (ps : Pairs) (x : ℕ) (u : Tree) → AllByRecursion (Gives σ) ps → found ps x ≡ Some u → σ x ≡ u
  value_found [] x u g e = absurd cc
  value_found (p ∷ ps) x u g e = go (p.0 == x) refl (value_found ps x u g.1) e
    where
      go : (b : Bool) → (p.0 == x) ≡ b → (found ps x ≡ Some u → σ x ≡ u) → pick b p.1 (found ps x) ≡ Some u → σ x ≡ u
      go true q h e = ap σ (sym (eqb-true p.0 x q)) ∙ g.0 ∙ (let s : p.1 ≡ u = cc in s)
      go false q h e = h e

-- the pair's variable is found first with its term
abbrev pub IsFirst : Pairs → ℕ × Tree → Type 0
IsFirst all pair = found all pair.0 ≡ Some pair.1

pub match_of : (p t : Tree) → Fits p t → AllByRecursion (IsFirst (against p t)) (against p t) → HasMatch p t
match_of p t f g = record { σ = image (against p t); gives = is_instance (image (against p t)) p t f (each_map (IsFirst (against p t)) (Gives (image (against p t))) (against p t) (λ pair e. ap (λ o. unwrap_or o (var pair.0)) e) g) }

-- what is found for a variable of one of the pairs
found_in : (front : Pairs) (x : ℕ) (u : Tree) (rest : Pairs) → found (front ++ (x, u) ∷ rest) x ≡ None → ⊥
found_in [] x u rest e = let h = found_here x u rest in cc
found_in (p ∷ front) x u rest e = go (p.0 == x) (found_in front x u rest) e
  where
    go : (b : Bool) → (found (front ++ (x, u) ∷ rest) x ≡ None → ⊥) → pick b p.1 (found (front ++ (x, u) ∷ rest) x) ≡ None → ⊥
    go true h e = cc
    go false h e = h e

-- where another term stands against a variable first, there is no match
pub no_match : (p t : Tree) (front : Pairs) (x : ℕ) (u : Tree) (rest : Pairs) → against p t ≡ front ++ (x, u) ∷ rest → ((first : Tree) → found (against p t) x ≡ Some first → first ≡ u → ⊥) → HasNoMatch p t
no_match p t front x u rest e n σ m = go (known (found (against p t) x))
  where
    values : AllByRecursion (Gives σ) (against p t)
    values = gives_instance σ p t m

    here : σ x ≡ u
    here = (each_right (Gives σ) front ((x, u) ∷ rest) (subst (AllByRecursion (Gives σ)) e values)).0

    go : ((s : Tree) × (found (against p t) x ≡ Some s)) ⊎ (found (against p t) x ≡ None) → ⊥
    go (inl s) = n s.0 s.1 (sym (value_found σ (against p t) x s.0 values s.1) ∙ here)
    go (inr f) = found_in front x u rest (ap (λ l. found l x) (sym e) ∙ f)

-- numbers below a bound that x isn't below
not_among : (front : Pairs) (bound x : ℕ) → AllByRecursion (λ pair. pair.0 < bound) front → bound ≤ x → found front x ≡ None
not_among [] bound x h k = refl
not_among (p ∷ front) bound x h k = go (p.0 == x) refl (not_among front bound x h.1 k)
  where
    go : (b : Bool) → (p.0 == x) ≡ b → found front x ≡ None → pick b p.1 (found front x) ≡ None
    go true q e = absurd (let s : p.0 ≡ x = eqb-true p.0 x q in let l = h.0 in omega arith)
    go false q e = e

pub first_new : (front : Pairs) (bound x : ℕ) (u : Tree) (rest : Pairs) → AllByRecursion (λ pair. pair.0 < bound) front → bound ≤ x → found (front ++ (x, u) ∷ rest) x ≡ Some u
first_new front bound x u rest h k = found_past front ((x, u) ∷ rest) x (not_among front bound x h k) ∙ found_here x u rest

pub first_here : (front : Pairs) (x : ℕ) (u : Tree) (rest : Pairs) → found front x ≡ None → found (front ++ (x, u) ∷ rest) x ≡ Some u
first_here front x u rest n = found_past front ((x, u) ∷ rest) x n ∙ found_here x u rest

pub still_none : (front : Pairs) (x y : ℕ) (u : Tree) → found front x ≡ None → (x ≡ y → ⊥) → found (front ++ (y, u) ∷ []) x ≡ None
still_none front x y u n d = found_past front ((y, u) ∷ []) x n ∙ go (y == x) refl
  where
    go : (b : Bool) → (y == x) ≡ b → pick (y == x) u None ≡ None
    go true q = absurd (d (sym (eqb-true y x q)))
    go false q = ap (λ b. pick b u None) q

-- a pair more
pub low_more : (front : Pairs) (bound new x : ℕ) (u : Tree) → AllByRecursion (λ pair. pair.0 < bound) front → bound ≤ new → x < new → AllByRecursion (λ pair. pair.0 < new) (front ++ (x, u) ∷ [])
low_more front bound new x u h k l = each_append (λ pair. pair.0 < new) front ((x, u) ∷ []) (each_map (λ pair. pair.0 < bound) (λ pair. pair.0 < new) front (λ pair e. omega (arith, e)) h) (l, tt)
