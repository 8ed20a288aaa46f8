-- Two orders of one kind agree on the ground terms over some symbols, where these weigh the same and are ranked alike.
use Rattle.std.proofs.Common.{◌≡◌, ℕ, ◌+◌, ◌<◌, Bool, refl, sym, ap, ap₂, ◌∙◌, subst, arith}
use Rattle.uc_term.specs.declared.node.Sym.{Sym}
use Rattle.uc_term.specs.Tree.{Tree, var, app, Trees, none, more, count}
use Rattle.uc_term.specs.Over.{IsGround, AreGround}
use Rattle.uc_kbo.specs.Kbo.{Weighing, weight, weight_all, Kbo, by_variables, by_tower, by_weight, by_head, by_args, FirstGreater as FirstHeavier, first_here, first_same}
use Rattle.uc_lpo.specs.PathOrder.{PathOrder, by_variables as above_it, by_argument, by_head as by_greater_head, by_arguments, SomeReaches, is_it, is_greater, a_later, Exceeds, no_more, one_more, FirstGreater, differ, agree}

module _ (has : Sym → Type 0) (arity : Sym → ℕ) where
  -- THE KNUTH-BENDIX ORDER

  module _ (w v : Weighing) (weights : (f : Sym) → has f → w.weight_of f (arity f) ≡ v.weight_of f (arity f)) (ranks : (f g : Sym) → has f → has g → w.rank g (arity g) < w.rank f (arity f) → v.rank g (arity g) < v.rank f (arity f)) where
    head_weight : (f : Sym) (ts : Trees) → has f → count ts ≡ arity f → w.weight_of f (count ts) ≡ v.weight_of f (count ts)
    head_weight f ts h e = ap (w.weight_of f) e ∙ weights f h ∙ sym (ap (v.weight_of f) e)

    head_rank : (f g : Sym) (ss ts : Trees) → has f → has g → count ss ≡ arity f → count ts ≡ arity g → w.rank g (count ts) < w.rank f (count ss) → v.rank g (count ts) < v.rank f (count ss)
    head_rank f g ss ts hf hg ef eg r =
        let low : w.rank g (arity g) < w.rank f (arity f) = subst (λ n. w.rank g n < w.rank f (arity f)) eg (subst (λ n. w.rank g (count ts) < w.rank f n) ef r) in
        subst (λ n. v.rank g n < v.rank f (count ss)) (sym eg) (subst (λ n. v.rank g (arity g) < v.rank f n) (sym ef) (ranks f g hf hg low))

    mutual
      weight_same : (t : Tree) → IsGround has arity t → weight w t ≡ weight v t
      weight_same (var x) g = absurd g
      weight_same (app f ts) g = ap₂ ◌+◌ (head_weight f ts g.0 g.1) (weights_same ts g.2)

      weights_same : (ts : Trees) → AreGround has arity ts → weight_all w ts ≡ weight_all v ts
      weights_same none g = refl
      weights_same (more t ts) g = ap₂ ◌+◌ (weight_same t g.0) (weights_same ts g.1)

    module _ (test : ℕ → ℕ → Bool) (above : ℕ → ℕ → Type 0) where
      mutual
        pub kbo_alike : {s t : Tree} → IsGround has arity s → IsGround has arity t → Kbo w test above s t → Kbo v test above s t
        kbo_alike gs gt (by_variables a) = absurd gs
        kbo_alike gs gt (by_tower t o) = absurd gt
        kbo_alike gs gt (by_weight {s = s} {t = t} c l) = by_weight c (omega (arith, l, weight_same s gs, weight_same t gt))
        kbo_alike gs gt (by_head {f = f} {g = g} {ss = ss} {ts = ts} c e r) = by_head c (sym (weight_same (app f ss) gs) ∙ e ∙ weight_same (app g ts) gt) (head_rank f g ss ts gs.0 gt.0 gs.1 gt.1 r)
        kbo_alike gs gt (by_args {f = f} {ss = ss} {ts = ts} c e n d) = by_args c (sym (weight_same (app f ss) gs) ∙ e ∙ weight_same (app f ts) gt) n (first_alike gs.2 gt.2 d)

        first_alike : {ss ts : Trees} → AreGround has arity ss → AreGround has arity ts → FirstHeavier w test above ss ts → FirstHeavier v test above ss ts
        first_alike gs gt (first_here k) = first_here (kbo_alike gs.0 gt.0 k)
        first_alike gs gt (first_same d) = first_same (first_alike gs.1 gt.1 d)

  -- THE PATH ORDER

  module _ (rank other : Sym → ℕ) (above : ℕ → ℕ → Type 0) (ranks : (f g : Sym) → has f → has g → rank g < rank f → other g < other f) where
    mutual
      pub path_alike : {s t : Tree} → IsGround has arity s → IsGround has arity t → PathOrder rank above s t → PathOrder other above s t
      path_alike gs gt (above_it a) = absurd gs
      path_alike gs gt (by_argument r) = by_argument (reaches_alike gs.2 gt r)
      path_alike gs gt (by_greater_head {f = f} {g = g} r e) = by_greater_head (ranks f g gs.0 gt.0 r) (exceeds_alike gs gt.2 e)
      path_alike gs gt (by_arguments e d) = by_arguments (exceeds_alike gs gt.2 e) (greater_alike gs.2 gt.2 d)

      reaches_alike : {ss : Trees} {t : Tree} → AreGround has arity ss → IsGround has arity t → SomeReaches rank above ss t → SomeReaches other above ss t
      reaches_alike gs gt is_it = is_it
      reaches_alike gs gt (is_greater p) = is_greater (path_alike gs.0 gt p)
      reaches_alike gs gt (a_later r) = a_later (reaches_alike gs.1 gt r)

      exceeds_alike : {s : Tree} {ts : Trees} → IsGround has arity s → AreGround has arity ts → Exceeds rank above s ts → Exceeds other above s ts
      exceeds_alike gs gt no_more = no_more
      exceeds_alike gs gt (one_more p e) = one_more (path_alike gs gt.0 p) (exceeds_alike gs gt.1 e)

      greater_alike : {ss ts : Trees} → AreGround has arity ss → AreGround has arity ts → FirstGreater rank above ss ts → FirstGreater other above ss ts
      greater_alike gs gt (differ p) = differ (path_alike gs.0 gt.0 p)
      greater_alike gs gt (agree d) = agree (greater_alike gs.1 gt.1 d)
