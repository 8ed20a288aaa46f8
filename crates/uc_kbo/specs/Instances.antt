-- What is greater, by any tests of variables, is greater in the instances that keep what the tests and the order of
-- variables say.
use Rattle.std.proofs.Common.{◌≡◌, ℕ, ◌+◌, ◌-◌, ◌<◌, ◌≤◌, ◌==◌, refl, ap, subst, arith, ◌⊎◌, inl, inr, sum_by, cond, Bool}
use Rattle.std.proofs.lemmas.List.Sums.{sum_by-append}
use Rattle.uc_term.specs.declared.node.Sym.{Sym}
use Rattle.uc_term.specs.Tree.{Tree, var, app, Trees, none, more, apply, apply_all, count}
use Rattle.uc_term.specs.Variables.{variables, variables_all}
use Rattle.uc_order.proofs.Renaming.{count-apply_all}
use Rattle.uc_kbo.specs.Kbo.{Covers, Weighing, weight, weight_all, Tower, tower_last, tower_copy, Kbo, by_variables, by_tower, by_weight, by_head, by_args, FirstGreater, first_here, first_same, is_it, None}
use Rattle.uc_kbo.specs.Sums.{occurrences}
use Rattle.uc_kbo.specs.Order.{Admissible, Greater, heavy, transitive, above_light}

module _ (w : Weighing) (ok : Admissible w) (σ : ℕ → Tree) where
  abbrev pub gain : ℕ → ℕ
  gain x = weight w (σ x) - w.w0

  mutual
    pub weight-apply : (t : Tree) → weight w (apply σ t) ≡ weight w t + sum_by gain (variables t)
    weight-apply (var x) = omega (arith, heavy w ok (σ x))
    weight-apply (app f ts) = omega (arith, weight_all-apply_all ts, ap (w.weight_of f) (count-apply_all σ ts))

    weight_all-apply_all : (ts : Trees) → weight_all w (apply_all σ ts) ≡ weight_all w ts + sum_by gain (variables_all ts)
    weight_all-apply_all none = refl
    weight_all-apply_all (more t ts) = omega (arith, weight-apply t, weight_all-apply_all ts, sum_by-append gain (variables t) (variables_all ts))

  mutual
    pub occurrences-apply : (y : ℕ) (t : Tree) → occurrences y (variables (apply σ t)) ≡ sum_by (λ x. occurrences y (variables (σ x))) (variables t)
    occurrences-apply y (var x) = omega arith
    occurrences-apply y (app f ts) = occurrences_all-apply_all y ts

    occurrences_all-apply_all : (y : ℕ) (ts : Trees) → occurrences y (variables_all (apply_all σ ts)) ≡ sum_by (λ x. occurrences y (variables (σ x))) (variables_all ts)
    occurrences_all-apply_all y none = refl
    occurrences_all-apply_all y (more t ts) = omega (arith, occurrences-apply y t, occurrences_all-apply_all y ts, sum_by-append (λ x. occurrences y (variables (σ x))) (variables t) (variables_all ts), sum_by-append (λ x. cond (x == y) 1 0) (variables (apply σ t)) (variables_all (apply_all σ ts)))

  -- what is asked of the instances of the terms that are good
  pub record Keeps (test : ℕ → ℕ → Bool) (above : ℕ → ℕ → Type 0) (Good : Tree → Type 0) (GoodAll : Trees → Type 0) : Type 0 where
    pub args : (f : Sym) (ts : Trees) → Good (app f ts) → GoodAll ts
    pub first : (t : Tree) (ts : Trees) → GoodAll (more t ts) → Good t
    pub rest : (t : Tree) (ts : Trees) → GoodAll (more t ts) → GoodAll ts
    pub gains : (s t : Tree) → Good s → Good t → Covers test s t → sum_by gain (variables t) ≤ sum_by gain (variables s)
    pub covers : (s t : Tree) → Good s → Good t → Covers test s t → Covers is_it (apply σ s) (apply σ t)
    pub raises : (x y : ℕ) → Good (var x) → Good (var y) → above x y → Greater w (σ x) (σ y)

  module _ (test : ℕ → ℕ → Bool) (above : ℕ → ℕ → Type 0) (Good : Tree → Type 0) (GoodAll : Trees → Type 0) (k : Keeps test above Good GoodAll) where
    heads : (f g : Sym) (ss ts : Trees) → Covers is_it (app f ss) (app g ts) → w.rank g (count ts) < w.rank f (count ss) → (weight w (app g ts) < weight w (app f ss)) ⊎ (weight w (app f ss) ≡ weight w (app g ts)) → Greater w (app f ss) (app g ts)
    heads f g ss ts c r (inl l) = by_weight c l
    heads f g ss ts c r (inr e) = by_head c e r

    arguments : (f : Sym) (ss ts : Trees) → Covers is_it (app f ss) (app f ts) → count ss ≡ count ts → FirstGreater w is_it None ss ts → (weight w (app f ts) < weight w (app f ss)) ⊎ (weight w (app f ss) ≡ weight w (app f ts)) → Greater w (app f ss) (app f ts)
    arguments f ss ts c n d (inl l) = by_weight c l
    arguments f ss ts c n d (inr e) = by_args c e n d

    weights : (s t : Tree) → Good s → Good t → Covers test s t → weight w s ≡ weight w t → (weight w (apply σ t) < weight w (apply σ s)) ⊎ (weight w (apply σ s) ≡ weight w (apply σ t))
    weights s t gs gt c e = let g = k.gains s t gs gt c in let a = weight-apply s in let b = weight-apply t in grind arith

    over_tower : (s : Tree) (y : ℕ) → Tower w s y → Greater w (apply σ s) (σ y)
    over_tower s y (tower_last {f = f} z) = above_light w ok f (σ y) z
    over_tower s y (tower_copy {f = f} {t = t} z p) = transitive w ok (apply σ s) (apply σ t) (σ y) (above_light w ok f (apply σ t) z) (over_tower t y p)

    good_tower : (s : Tree) (y : ℕ) → Tower w s y → Good s → Good (var y)
    good_tower s y (tower_last {f = f} z) g = k.first (var y) none (k.args f (more (var y) none) g)
    good_tower s y (tower_copy {f = f} {t = t} z p) g = good_tower t y p (k.first t none (k.args f (more t none) g))

    from_tower : (s : Tree) (x y : ℕ) → Tower w s y → Good s → Good (var x) → (y ≡ x) ⊎ above y x → Greater w (apply σ s) (σ x)
    from_tower s x y p gs gx (inl e) = subst (λ (z : ℕ). Greater w (apply σ s) (σ z)) e (over_tower s y p)
    from_tower s x y p gs gx (inr a) = transitive w ok (apply σ s) (σ y) (σ x) (over_tower s y p) (k.raises y x (good_tower s y p gs) gx a)

    mutual
      pub kept : (s t : Tree) → Good s → Good t → Kbo w test above s t → Greater w (apply σ s) (apply σ t)
      kept (var x) (var y) gs gt (by_variables a) = k.raises x y gs gt a
      kept s t gs gt (by_tower {x = x} {y = y} p d) = from_tower s x y p gs gt d
      kept s t gs gt (by_weight c l) = by_weight (k.covers s t gs gt c) (omega (arith, weight-apply s, weight-apply t, k.gains s t gs gt c))
      kept (app f ss) (app g ts) gs gt (by_head c e r) =
          heads f g (apply_all σ ss) (apply_all σ ts) (k.covers (app f ss) (app g ts) gs gt c) (omega (arith, r, ap (w.rank g) (count-apply_all σ ts), ap (w.rank f) (count-apply_all σ ss))) (weights (app f ss) (app g ts) gs gt c e)
      kept (app f ss) (app g ts) gs gt (by_args c e n d) =
          arguments f (apply_all σ ss) (apply_all σ ts) (k.covers (app f ss) (app f ts) gs gt c) (omega (arith, n, count-apply_all σ ss, count-apply_all σ ts)) (kept_first ss ts (k.args f ss gs) (k.args f ts gt) d) (weights (app f ss) (app f ts) gs gt c e)

      kept_first : (ss ts : Trees) → GoodAll ss → GoodAll ts → FirstGreater w test above ss ts → FirstGreater w is_it None (apply_all σ ss) (apply_all σ ts)
      kept_first none ts gs gt d = elim d [ ]
      kept_first (more s ss) none gs gt d = elim d [ ]
      kept_first (more s ss) (more t ts) gs gt (first_here l) = first_here (kept s t (k.first s ss gs) (k.first t ts gt) l)
      kept_first (more s ss) (more t ts) gs gt (first_same d) = first_same (kept_first ss ts (k.rest s ss gs) (k.rest t ts gt) d)
