-- Every ground term is accessible under the Knuth-Bendix order: by the weight, the copies of a symbol of weight 0 in
-- front, the head, and the arguments.
use Rattle.std.proofs.Common.{◌≡◌, ◌≢◌, ℕ, zero, suc, ◌+◌, ◌<◌, refl, sym, ap, ap₂, arith, ◌⊎◌, inl, inr, subst}
use mathlib.Core.WellFounded.{Acc}
use Rattle.uc_term.specs.declared.node.Sym.{Sym}
use Rattle.uc_term.specs.Tree.{Tree, var, app, Trees, none, more, count}
use Rattle.uc_term.specs.Over.{IsGround, AreGround}
use Rattle.uc_term.proofs.Lists.{AllAcc, FirstUnder, ListUnder, lists_accessible}
use Rattle.uc_kbo.specs.Kbo.{Weighing, weight, weight_all, by_weight, by_head, by_args, FirstGreater, first_here, first_same, is_it, None}
use Rattle.uc_kbo.specs.Order.{Admissible, Greater}

module _ (w : Weighing) (ok : Admissible w) (has : Sym → Type 0) (arity : Sym → ℕ) where
  -- a ground term below another
  abbrev pub Under : Tree → Tree → Type 0
  Under u t = IsGround has arity u × Greater w t u

  first_under : (ts us : Trees) → AreGround has arity us → FirstGreater w is_it None ts us → FirstUnder Under us ts
  first_under none us g d = elim d [ ]
  first_under (more t ts) none g d = elim d [ ]
  first_under (more t ts) (more u us) g (first_here l) = FirstUnder.here (g.0, l)
  first_under (more t ts) (more u us) g (first_same d) = FirstUnder.same (first_under ts us g.1 d)

  module _ (n : ℕ) (lighter : (u : Tree) → IsGround has arity u → weight w u < n → Acc Under u) where
    all_lighter : (us : Trees) → AreGround has arity us → weight_all w us < n → AllAcc Under us
    all_lighter none g h = tt
    all_lighter (more u us) g h = (lighter u g.0 (omega arith), all_lighter us g.1 (omega arith))

    -- the arguments under a symbol that weighs something
    parts : (f : Sym) (us : Trees) → IsGround has arity (app f us) → weight w (app f us) ≡ n → 0 < w.weight_of f (count us) → AllAcc Under us
    parts f us g e h = all_lighter us g.2 (omega arith)

    abbrev Lower : ℕ → Type 0
    Lower r = (g : Sym) (us : Trees) → w.rank g (count us) < r → 0 < w.weight_of g (count us) → IsGround has arity (app g us) → weight w (app g us) ≡ n → Acc Under (app g us)

    -- a symbol under one that isn't light isn't light
    heavy_below : (f g : Sym) (k m : ℕ) → 0 < w.weight_of f k → w.rank g m < w.rank f k → (w.weight_of g m ≡ 0) ⊎ (0 < w.weight_of g m) → 0 < w.weight_of g m
    heavy_below f g k m h r (inr l) = l
    heavy_below f g k m h r (inl z) = elim (ok.top g m z f k) [ inl q ↦ absurd (omega arith) | inr e ↦ absurd (omega (arith, ap₂ w.rank e.0 e.1)) ]

    zero_or_more : (m : ℕ) → (m ≡ 0) ⊎ (0 < m)
    zero_or_more m = grind arith

    down : (f : Sym) (ts : Trees) → 0 < w.weight_of f (count ts) → IsGround has arity (app f ts) → weight w (app f ts) ≡ n → Lower (w.rank f (count ts)) → ((us : Trees) → ListUnder Under (arity f) us ts → count us ≡ count ts → IsGround has arity (app f us) → weight w (app f us) ≡ n → Acc Under (app f us)) → (u : Tree) → IsGround has arity u → Greater w (app f ts) u → Acc Under u
    down f ts h gt e lower lesser (var x) g l = absurd g
    down f ts h gt e lower lesser u g (by_weight c l) = lighter u g (omega arith)
    down f ts h gt e lower lesser (app k us) g (by_head c q r) = lower k us r (heavy_below f k (count ts) (count us) h r (zero_or_more (w.weight_of k (count us)))) g (omega arith)
    down f ts h gt e lower lesser (app _ us) g (by_args c q m d) =
        let same = ap (w.weight_of f) m in
        lesser us (record { long = g.1; accessible = parts f us g (omega arith) (omega arith); less = first_under ts us g.2 d }) (sym m) g (omega arith)

    by_lists : (f : Sym) (ts : Trees) → Acc (ListUnder Under (arity f)) ts → 0 < w.weight_of f (count ts) → IsGround has arity (app f ts) → weight w (app f ts) ≡ n → Lower (w.rank f (count ts)) → Acc Under (app f ts)
    by_lists f _ (Acc.intro ts k) h g e lower = Acc.intro (app f ts) (λ u l. down f ts h g e lower
        (λ us p m g' e'. let same = ap (w.weight_of f) m in by_lists f us (k us p) (omega arith) g' e' (let P : ℕ → Type 0 = Lower in subst P (ap (w.rank f) (sym m)) lower)) u l.0 l.1)

    by_ranks : (r : ℕ) → Lower r
    by_ranks zero f ts q h g e = absurd (omega arith)
    by_ranks (suc r) f ts q h g e = by_lists f ts (lists_accessible Under (arity f) ts g.1 (parts f ts g e h)) h g e (λ k us p h' g' e'. by_ranks r k us (omega arith) h' g' e')

    light_down : (f : Sym) (t : Tree) → w.weight_of f 1 ≡ 0 → weight w (app f (more t none)) ≡ n → ((v : Tree) → IsGround has arity v × Greater w t v → weight w (app f (more v none)) ≡ n → Acc Under (app f (more v none))) → (u : Tree) → IsGround has arity u → Greater w (app f (more t none)) u → Acc Under u
    light_down f t z e next (var x) g l = absurd g
    light_down f t z e next u g (by_weight c l) = lighter u g (omega arith)
    light_down f t z e next (app k us) g (by_head c q r) = by_ranks (w.rank f 1) k us r (below_light k (count us) r (zero_or_more (w.weight_of k (count us)))) g (omega arith)
      where
        below_light : (h : Sym) (m : ℕ) → w.rank h m < w.rank f 1 → (w.weight_of h m ≡ 0) ⊎ (0 < w.weight_of h m) → 0 < w.weight_of h m
        below_light h m r (inr l) = l
        below_light h m r (inl y) = elim (ok.top h m y f 1) [ inl q ↦ absurd (omega arith) | inr d ↦ absurd (omega (arith, ap₂ w.rank d.0 d.1)) ]
    light_down f t z e next (app _ none) g (by_args c q m d) = absurd (omega arith)
    light_down f t z e next (app _ (more v (more r rs))) g (by_args c q m d) = absurd (omega arith)
    light_down f t z e next (app _ (more v none)) g (by_args c q m (first_here l)) = next v (g.2.0, l) (omega arith)
    light_down f t z e next (app _ (more v none)) g (by_args c q m (first_same d)) = elim d [ ]

    -- a light symbol over an accessible term
    under_light : (f : Sym) (t : Tree) → Acc Under t → w.weight_of f 1 ≡ 0 → weight w (app f (more t none)) ≡ n → Acc Under (app f (more t none))
    under_light f _ (Acc.intro t k) z e = Acc.intro (app f (more t none)) (λ u l. light_down f t z e (λ v p e'. under_light f v (k v p) z e') u l.0 l.1)

    heavy_head : (f : Sym) (ts : Trees) → 0 < w.weight_of f (count ts) → IsGround has arity (app f ts) → weight w (app f ts) ≡ n → Acc Under (app f ts)
    heavy_head f ts h g e = by_ranks (w.rank f (count ts) + 1) f ts (omega arith) h g e

    not_light : (f : Sym) (m : ℕ) → m ≢ 1 → (w.weight_of f m ≡ 0) ⊎ (0 < w.weight_of f m) → 0 < w.weight_of f m
    not_light f m ne (inl z) = absurd (ne (ok.light f m z))
    not_light f m ne (inr h) = h

    one_argument : (f : Sym) (t : Tree) → IsGround has arity (app f (more t none)) → weight w (app f (more t none)) ≡ n → (w.weight_of f 1 ≡ 0) ⊎ (0 < w.weight_of f 1) → (weight w t ≡ n → Acc Under t) → Acc Under (app f (more t none))
    one_argument f t g e (inl z) inner = under_light f t (inner (omega arith)) z e
    one_argument f t g e (inr h) inner = heavy_head f (more t none) h g e

    same_weight : (t : Tree) → IsGround has arity t → weight w t ≡ n → Acc Under t
    same_weight (var x) g e = absurd g
    same_weight (app f none) g e = heavy_head f none (not_light f 0 (λ q. omega arith) (zero_or_more (w.weight_of f 0))) g e
    same_weight (app f (more t (more r rs))) g e = heavy_head f (more t (more r rs)) (not_light f (count (more t (more r rs))) (λ q. omega arith) (zero_or_more (w.weight_of f (count (more t (more r rs)))))) g e
    same_weight (app f (more t none)) g e = one_argument f t g e (zero_or_more (w.weight_of f 1)) (λ q. same_weight t g.2.0 q)

  by_weights : (n : ℕ) (t : Tree) → IsGround has arity t → weight w t < n → Acc Under t
  by_weights zero t g h = absurd (omega arith)
  by_weights (suc n) t g h = same_weight (weight w t) (λ u k l. by_weights n u k (omega arith)) t g refl

  pub accessible : (t : Tree) → IsGround has arity t → Acc Under t
  accessible t g = by_weights (weight w t + 1) t g (omega arith)
