-- What is greater is so under every order of variables, under which only one of two terms is greater.
use Rattle.std.proofs.Common.{◌≡◌, ℕ, ◌≤◌, refl, sym, ap, ◌∙◌, subst, arith, ◌⊎◌, inl, inr, sum_by, count_by, cond, Bool}
use Rattle.std.proofs.lemmas.List.Sums.{sum_by-append}
use Rattle.uc_term.specs.declared.node.Sym.{Sym}
use Rattle.uc_term.specs.Tree.{Tree, var, app, Trees, none, more, apply, apply_all, count}
use Rattle.uc_term.specs.Variables.{variables, variables_all}
use Rattle.uc_order.specs.VarOrders.{Classes, IsHigher, representative, represented}
use Rattle.uc_order.proofs.Renaming.{renaming, count-apply_all}
use Rattle.uc_kbo.specs.Kbo.{Covers, Weighing, weight, weight_all, Tower, tower_last, tower_copy, Kbo, by_variables, by_tower, by_weight, by_head, by_args, FirstGreater, first_here, first_same, is_it, None, is_from, KboGreater, KboUnder}
use Rattle.uc_kbo.specs.Sums.{sum_by-le}
use Rattle.uc_kbo.specs.Order.{irreflexive_by, tower_weight}

module _ (w : Weighing) (test : ℕ → ℕ → Bool) (above : ℕ → ℕ → Type 0) where
  as_heavy : (s t : Tree) → Kbo w test above s t → weight w t ≤ weight w s
  as_heavy s t (by_variables a) = omega arith
  as_heavy s t (by_tower p e) = omega (arith, tower_weight w p)
  as_heavy s t (by_weight c l) = omega (arith, l)
  as_heavy s t (by_head c e r) = omega (arith, e)
  as_heavy s t (by_args c e n d) = omega (arith, e)

  under_tower : (x : ℕ) (s : Tree) (y : ℕ) → Kbo w test above (var x) s → Tower w s y → ⊥
  under_tower x s y (by_variables a) p = elim p [ ]
  under_tower x s y (by_tower q e) p = elim q [ ]
  under_tower x s y (by_weight c l) p = absurd (omega (arith, l, tower_weight w p))

  parted : (s t : Tree) (ss ts : Trees) → FirstGreater w test above (more s ss) (more t ts) → Kbo w test above s t ⊎ ((s ≡ t) × FirstGreater w test above ss ts)
  parted s t ss ts (first_here a) = inl a
  parted s t ss ts (first_same d) = inr (refl, d)

  arguments : (f g : Sym) (ss ts : Trees) → Kbo w test above (app f ss) (app g ts) → weight w (app f ss) ≡ weight w (app g ts) → w.rank f (count ss) ≡ w.rank g (count ts) → FirstGreater w test above ss ts
  arguments f g ss ts (by_weight c l) e r = absurd (omega (arith, l, e))
  arguments f g ss ts (by_head c k q) e r = absurd (omega (arith, q, r))
  arguments f g ss ts (by_args c k n d) e r = d

  -- of any kind of variables
  module _ (apart : (x y : ℕ) → above x y → above y x → ⊥) where
    no_self : (s t : Tree) → s ≡ t → Kbo w test above s t → ⊥
    no_self s t e a = irreflexive_by w test above (λ x b. apart x x b b) s (subst (λ (z : Tree). Kbo w test above s z) (sym e) a)

    mutual
      pub asymmetric : (s t : Tree) → Kbo w test above s t → Kbo w test above t s → ⊥
      asymmetric s t (by_variables {x = x} {y = y} a) (by_variables b) = apart x y a b
      asymmetric s t (by_variables a) (by_tower p e) = elim p [ ]
      asymmetric s t (by_variables a) (by_weight c l) = absurd (omega (arith, l))
      asymmetric s t (by_tower {x = x} {y = y} p e) b = under_tower x s y b p
      asymmetric s t (by_weight c l) b = absurd (omega (arith, l, as_heavy t s b))
      asymmetric s t (by_head c e r) (by_weight d l) = absurd (omega (arith, e, l))
      asymmetric s t (by_head c e r) (by_head d k q) = absurd (omega (arith, r, q))
      asymmetric s t (by_head c e r) (by_args {f = f} d k n l) = absurd (omega (arith, r, ap (w.rank f) n))
      asymmetric (app f ss) (app g ts) (by_args {f = h} c e n d) b = first_asymmetric ss ts d (arguments h h ts ss b (sym e) (ap (w.rank h) (sym n)))

      first_asymmetric : (ss ts : Trees) → FirstGreater w test above ss ts → FirstGreater w test above ts ss → ⊥
      first_asymmetric none ts d e = elim d [ ]
      first_asymmetric (more s ss) none d e = elim d [ ]
      first_asymmetric (more s ss) (more t ts) d e = elim (parted s t ss ts d) [
        | inl a ↦ elim (parted t s ts ss e) [ inl b ↦ asymmetric s t a b | inr q ↦ no_self s t (sym q.0) a ]
        | inr p ↦ elim (parted t s ts ss e) [ inl b ↦ no_self t s (sym p.0) b | inr q ↦ first_asymmetric ss ts p.1 q.1 ]
      ]

-- variables renamed
module _ (w : Weighing) (r : ℕ → ℕ) where
  mutual
    counted : (p : ℕ → Bool) (t : Tree) → count_by p (variables (apply (renaming r) t)) ≡ sum_by (λ x. cond (p (r x)) 1 0) (variables t)
    counted p (var x) = refl
    counted p (app f ts) = counted_all p ts

    counted_all : (p : ℕ → Bool) (ts : Trees) → count_by p (variables_all (apply_all (renaming r) ts)) ≡ sum_by (λ x. cond (p (r x)) 1 0) (variables_all ts)
    counted_all p none = refl
    counted_all p (more t ts) = omega (arith, counted p t, counted_all p ts, sum_by-append (λ x. cond (p (r x)) 1 0) (variables t) (variables_all ts), sum_by-append (λ x. cond (p x) 1 0) (variables (apply (renaming r) t)) (variables_all (apply_all (renaming r) ts)))

  still_covers : (test : ℕ → ℕ → Bool) (s t : Tree) → Covers is_it s t → Covers test (apply (renaming r) s) (apply (renaming r) t)
  still_covers test s t c k = omega (arith, counted (test k) s, counted (test k) t, sum_by-le (λ x. cond (test k (r x)) 1 0) (variables t) (variables s) c)

  mutual
    weighed : (t : Tree) → weight w (apply (renaming r) t) ≡ weight w t
    weighed (var x) = refl
    weighed (app f ts) = omega (arith, weighed_all ts, ap (w.weight_of f) (count-apply_all (renaming r) ts))

    weighed_all : (ts : Trees) → weight_all w (apply_all (renaming r) ts) ≡ weight_all w ts
    weighed_all none = refl
    weighed_all (more t ts) = omega (arith, weighed t, weighed_all ts)

  towering : (s : Tree) (y : ℕ) → Tower w s y → Tower w (apply (renaming r) s) (r y)
  towering s y (tower_last z) = tower_last z
  towering s y (tower_copy {t = t} z p) = tower_copy z (towering t y p)

  module _ (test : ℕ → ℕ → Bool) (above : ℕ → ℕ → Type 0) where
    mutual
      pub raised : (s t : Tree) → KboGreater w s t → Kbo w test above (apply (renaming r) s) (apply (renaming r) t)
      raised s t (by_variables a) = absurd a
      raised s t (by_tower {y = y} p (inl e)) = by_tower (towering s y p) (inl (ap r e))
      raised s t (by_tower p (inr a)) = absurd a
      raised s t (by_weight c l) = by_weight (still_covers test s t c) (omega (arith, l, weighed s, weighed t))
      raised s t (by_head {f = f} {g = g} {ss = ss} {ts = ts} c e q) =
          by_head (still_covers test (app f ss) (app g ts) c) (weighed (app f ss) ∙ e ∙ sym (weighed (app g ts))) (omega (arith, q, ap (w.rank g) (count-apply_all (renaming r) ts), ap (w.rank f) (count-apply_all (renaming r) ss)))
      raised (app f ss) (app g ts) (by_args c e n d) =
          by_args (still_covers test (app f ss) (app f ts) c) (weighed (app f ss) ∙ e ∙ sym (weighed (app f ts))) (omega (arith, n, count-apply_all (renaming r) ss, count-apply_all (renaming r) ts)) (first_raised ss ts d)

      first_raised : (ss ts : Trees) → FirstGreater w is_it None ss ts → FirstGreater w test above (apply_all (renaming r) ss) (apply_all (renaming r) ts)
      first_raised none ts d = elim d [ ]
      first_raised (more s ss) none d = elim d [ ]
      first_raised (more s ss) (more t ts) (first_here a) = first_here (raised s t a)
      first_raised (more s ss) (more t ts) (first_same d) = first_same (first_raised ss ts d)

pub refined : (w : Weighing) (cs : Classes) (s t : Tree) → KboGreater w s t → KboUnder w cs s t
refined w cs s t a = raised w (representative cs) (is_from cs) (IsHigher cs) s t a

pub one_way : (w : Weighing) (cs : Classes) (s t : Tree) → KboUnder w cs s t → KboUnder w cs t s → ⊥
one_way w cs s t a b = asymmetric w (is_from cs) (IsHigher cs) (λ x y h k. absurd (omega (arith, h, k))) (represented cs s) (represented cs t) a b
