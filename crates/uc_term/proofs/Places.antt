-- A relation used at one place is a replacement at a path.
use Rattle.std.proofs.Common.{◌≡◌, ℕ, zero, suc, List, [], ◌∷◌, Option, Some, None, option_and_then, refl, ap, subst}
use Rattle.uc_term.specs.declared.node.Sym.{Sym}
use Rattle.uc_term.specs.Tree.{Tree, var, app, Trees, none, more}
use Rattle.uc_term.specs.Path.{nth, change, at, put_at}
use Rattle.uc_term.specs.Within.{Within, at_root, under, WithinOne, at_first, at_later}

module _ (R : Tree → Tree → Type 0) where
  go_on : (p : List ℕ) (o : Option Tree) (u : Tree) → option_and_then (λ v. at v p) o ≡ Some u → (a : Tree) × (o ≡ Some a) × (at a p ≡ Some u)
  go_on p None u e = cc
  go_on p (Some a) u e = (a, refl, e)

  once_changed : (g : Tree → Tree) (ts : Trees) (i : ℕ) (c : Tree) → nth ts i ≡ Some c → Within R c (g c) → WithinOne R ts (change g ts i)
  once_changed g none i c e s = absurd cc
  once_changed g (more t ts) zero c e s = let q : c ≡ t = cc in at_first (subst (λ (x : Tree). Within R x (g x)) q s)
  once_changed g (more t ts) (suc i) c e s = at_later (once_changed g ts i c e s)

  pub within_put : (p : List ℕ) (t a b : Tree) → at t p ≡ Some a → R a b → Within R t (put_at t p b)
  within_put [] t a b e r = let q : a ≡ t = cc in at_root (subst (λ (x : Tree). R x b) q r)
  within_put (i ∷ p) (var x) a b e r = absurd cc
  within_put (i ∷ p) (app f ts) a b e r = let s = go_on p (nth ts i) a e in under (once_changed (λ c. put_at c p b) ts i s.0 s.1 (within_put p s.0 a b s.2 r))

  pub record Place (u v : Tree) : Type 0 where
    pub p : List ℕ
    pub a : Tree
    pub b : Tree
    pub there : at u p ≡ Some a
    pub related : R a b
    pub v_is : v ≡ put_at u p b

  record PlaceIn (us vs : Trees) : Type 0 where
    i : ℕ
    p : List ℕ
    a : Tree
    b : Tree
    there : option_and_then (λ u. at u p) (nth us i) ≡ Some a
    related : R a b
    vs_is : vs ≡ change (λ c. put_at c p b) us i

  below : (f : Sym) {us vs : Trees} → PlaceIn us vs → Place (app f us) (app f vs)
  below f h = record { p = h.i ∷ h.p; a = h.a; b = h.b; there = h.there; related = h.related; v_is = ap (app f) h.vs_is }

  first_place : {u v : Tree} (ts : Trees) → Place u v → PlaceIn (more u ts) (more v ts)
  first_place ts h = record { i = zero; p = h.p; a = h.a; b = h.b; there = h.there; related = h.related; vs_is = ap (λ x. more x ts) h.v_is }

  later_place : (t : Tree) {us vs : Trees} → PlaceIn us vs → PlaceIn (more t us) (more t vs)
  later_place t h = record { i = suc h.i; p = h.p; a = h.a; b = h.b; there = h.there; related = h.related; vs_is = ap (more t) h.vs_is }

  mutual
    pub place_of : {u v : Tree} → Within R u v → Place u v
    place_of (at_root {u = u} {v = v} r) = record { p = []; a = u; b = v; there = refl; related = r; v_is = refl }
    place_of (under {f = f} o) = below f (place_in o)

    place_in : {us vs : Trees} → WithinOne R us vs → PlaceIn us vs
    place_in (at_first {ts = ts} s) = first_place ts (place_of s)
    place_in (at_later {t = t} o) = later_place t (place_in o)
