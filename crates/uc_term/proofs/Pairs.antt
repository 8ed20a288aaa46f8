-- Laws of lists of pairs: what is found in them, and which substitutions agree with them.
use Rattle.std.proofs.Common.{◌≡◌, ℕ, ◌==◌, ◌||◌, Bool, true, false, List, [], ◌∷◌, ◌++◌, Option, Some, None, unwrap_or, if◌then◌else◌, refl, sym, ap, ◌∙◌, ◌⊎◌, inl, inr, append_assoc}
use Rattle.std.proofs.lemmas.Bool.{eqb-true, eq-eqb}
use Rattle.std.proofs.lemmas.List.{map-append}
use Rattle.uc_term.specs.Tree.{Tree, var}
use Rattle.uc_term.specs.Subst.{found, image, domain, Agrees}
use Rattle.uc_term.specs.Variables.{is_among, firsts_after}
use Rattle.uc_term.proofs.Firsts.{is_among-append, firsts_after-like}

abbrev Pairs : Type 0
Pairs = List (ℕ × Tree)

abbrev pick : Bool → Tree → Option Tree → Option Tree
pick b t o = if b then Some t else o

pub found_kept : (ps qs : Pairs) (y : ℕ) (t : Tree) → found ps y ≡ Some t → found (ps ++ qs) y ≡ Some t
found_kept [] qs y t e = absurd cc
found_kept (p ∷ ps) qs y t e = go (p.0 == y) (found_kept ps qs y t) e
  where
    go : (b : Bool) → (found ps y ≡ Some t → found (ps ++ qs) y ≡ Some t) → pick b p.1 (found ps y) ≡ Some t → pick b p.1 (found (ps ++ qs) y) ≡ Some t
    go true h e = e
    go false h e = h e

pub found_past : (ps qs : Pairs) (y : ℕ) → found ps y ≡ None → found (ps ++ qs) y ≡ found qs y
found_past [] qs y e = refl
found_past (p ∷ ps) qs y e = go (p.0 == y) (found_past ps qs y) e
  where
    go : (b : Bool) → (found ps y ≡ None → found (ps ++ qs) y ≡ found qs y) → pick b p.1 (found ps y) ≡ None → pick b p.1 (found (ps ++ qs) y) ≡ found qs y
    go true h e = absurd cc
    go false h e = h e

pub found_here : (x : ℕ) (t : Tree) (ps : Pairs) → found ((x, t) ∷ ps) x ≡ Some t
found_here x t ps = let e : (x == x) ≡ true = eq-eqb x x refl in rw e refl

-- whether there is one
pub known : (o : Option Tree) → ((t : Tree) × (o ≡ Some t)) ⊎ (o ≡ None)
known None = inr refl
known (Some t) = inl (t, refl)

one_found : (x y : ℕ) (u t : Tree) → found ((x, u) ∷ []) y ≡ Some t → (x ≡ y) × (u ≡ t)
one_found x y u t e = go (x == y) refl e
  where
    go : (b : Bool) → (x == y) ≡ b → pick b u None ≡ Some t → (x ≡ y) × (u ≡ t)
    go true h e = (eqb-true x y h, cc)
    go false h e = absurd cc

-- what is found once a pair is added is what was there, or the new pair
pub found_pushed : (ps : Pairs) (x y : ℕ) (u t : Tree) → found (ps ++ (x, u) ∷ []) y ≡ Some t → (found ps y ≡ Some t) ⊎ ((x ≡ y) × (u ≡ t))
found_pushed ps x y u t e = go (known (found ps y))
  where
    go : ((s : Tree) × (found ps y ≡ Some s)) ⊎ (found ps y ≡ None) → (found ps y ≡ Some t) ⊎ ((x ≡ y) × (u ≡ t))
    go (inl s) = inl (s.1 ∙ (sym (found_kept ps ((x, u) ∷ []) y s.0 s.1) ∙ e))
    go (inr n) = inr (one_found x y u t (sym (found_past ps ((x, u) ∷ []) y n) ∙ e))

module _ (σ : ℕ → Tree) (ps : Pairs) (x : ℕ) (u : Tree) where
  -- a new pair asks for one more value
  pub agrees_pushed : found ps x ≡ None → Agrees σ (ps ++ (x, u) ∷ []) → Agrees σ ps × (σ x ≡ u)
  agrees_pushed n a = (λ y t e. a y t (found_kept ps ((x, u) ∷ []) y t e), a x u (found_past ps ((x, u) ∷ []) x n ∙ found_here x u []))

  pub agrees_push : Agrees σ ps → σ x ≡ u → Agrees σ (ps ++ (x, u) ∷ [])
  agrees_push a e y t f = go (found_pushed ps x y u t f)
    where
      go : (found ps y ≡ Some t) ⊎ ((x ≡ y) × (u ≡ t)) → σ y ≡ t
      go (inl h) = a y t h
      go (inr h) = ap σ (sym h.0) ∙ (e ∙ h.1)

pub agrees_image : (ps : Pairs) → Agrees (image ps) ps
agrees_image ps x t e = ap (λ o. unwrap_or o (var x)) e

eq-sym : (a b : ℕ) → (a == b) ≡ (b == a)
eq-sym a b = go (a == b) refl (b == a) refl
  where
    go : (c : Bool) → (a == b) ≡ c → (d : Bool) → (b == a) ≡ d → c ≡ d
    go true h true k = refl
    go false h false k = refl
    go true h false k = sym (eq-eqb b a (sym (eqb-true a b h))) ∙ k
    go false h true k = sym h ∙ eq-eqb a b (sym (eqb-true b a k))

-- a variable has a pair exactly where it is in the domain
pub found_among : (ps : Pairs) (x : ℕ) (t : Tree) → found ps x ≡ Some t → is_among x (domain ps) ≡ true
found_among [] x t e = absurd cc
found_among (p ∷ ps) x t e = rw (eq-sym x p.0) (go (p.0 == x) (found_among ps x t) e)
  where
    go : (b : Bool) → (found ps x ≡ Some t → is_among x (domain ps) ≡ true) → pick b p.1 (found ps x) ≡ Some t → (b || is_among x (domain ps)) ≡ true
    go true h e = refl
    go false h e = h e

pub found_not_among : (ps : Pairs) (x : ℕ) → found ps x ≡ None → is_among x (domain ps) ≡ false
found_not_among [] x e = refl
found_not_among (p ∷ ps) x e = rw (eq-sym x p.0) (go (p.0 == x) (found_not_among ps x) e)
  where
    go : (b : Bool) → (found ps x ≡ None → is_among x (domain ps) ≡ false) → pick b p.1 (found ps x) ≡ None → (b || is_among x (domain ps)) ≡ false
    go true h e = absurd cc
    go false h e = h e

-- the variables that are still to come, once the first of them has a pair
pub domain_old : (ps : Pairs) (x : ℕ) (u : Tree) (xs : List ℕ) → found ps x ≡ Some u → firsts_after (domain ps) (x ∷ xs) ≡ firsts_after (domain ps) xs
domain_old ps x u xs e = rw (found_among ps x u e) refl

pub domain_new : (ps : Pairs) (x : ℕ) (u : Tree) (xs : List ℕ) → found ps x ≡ None → domain (ps ++ (x, u) ∷ []) ++ firsts_after (domain (ps ++ (x, u) ∷ [])) xs ≡ domain ps ++ firsts_after (domain ps) (x ∷ xs)
domain_new ps x u xs e =
    rw (map-append (λ (p : ℕ × Tree). p.0) ps ((x, u) ∷ []), found_not_among ps x e)
    (append_assoc (domain ps) (x ∷ []) (firsts_after (domain ps ++ x ∷ []) xs) ∙ ap (λ l. domain ps ++ (x ∷ l)) (firsts_after-like (domain ps ++ x ∷ []) (x ∷ domain ps) like xs))
  where
    like : (y : ℕ) → is_among y (domain ps ++ x ∷ []) ≡ is_among y (x ∷ domain ps)
    like y = is_among-append y (domain ps) (x ∷ []) ∙ turn (is_among y (domain ps)) (y == x)
      where
        turn : (a b : Bool) → (a || (b || false)) ≡ (b || a)
        turn true true = refl
        turn true false = refl
        turn false true = refl
        turn false false = refl
