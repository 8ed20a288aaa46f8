-- The lexicographic path order is closed under instances and contexts, transitive and irreflexive, and a term is greater
-- than its arguments.
use Rattle.std.proofs.Common.{◌≡◌, ℕ, zero, suc, ◌+◌, ◌<◌, ◌≤◌, refl, sym, ap, subst, arith}
use Rattle.uc_term.specs.declared.node.Sym.{Sym}
use Rattle.uc_term.specs.Tree.{Tree, app, Trees, none, more, apply, apply_all, nodes, nodes_all}
use Rattle.uc_term.specs.Variables.{Occurs, is_itself, in_args, OccursIn, in_first, in_later}
use Rattle.uc_term.specs.Within.{Within, at_root, under, WithinOne, at_first, at_later}
use Rattle.uc_term.proofs.Terms.{nodes_pos}
use Rattle.uc_lpo.specs.PathOrder.{PathOrder, by_variables, by_argument, by_head, by_arguments, SomeReaches, is_it, is_greater, a_later, Exceeds, no_more, one_more, FirstGreater, differ, agree}

-- what is greater is greater in every instance in which the terms of the variables are as these were
module _ (rank : Sym → ℕ) (above below : ℕ → ℕ → Type 0) (Known : ℕ → Type 0) (σ : ℕ → Tree) (respects : (x y : ℕ) → Known x → Known y → above x y → PathOrder rank below (σ x) (σ y)) where
  mutual
    pub PathOrder-apply : {s t : Tree} → ((x : ℕ) → Occurs x s → Known x) → ((x : ℕ) → Occurs x t → Known x) → PathOrder rank above s t → PathOrder rank below (apply σ s) (apply σ t)
    PathOrder-apply ks kt (by_variables {x = x} {y = y} a) = respects x y (ks x is_itself) (kt y is_itself) a
    PathOrder-apply ks kt (by_argument h) = by_argument (SomeReaches-apply (λ x i. ks x (in_args i)) kt h)
    PathOrder-apply ks kt (by_head r h) = by_head r (Exceeds-apply ks (λ x i. kt x (in_args i)) h)
    PathOrder-apply ks kt (by_arguments h d) = by_arguments (Exceeds-apply ks (λ x i. kt x (in_args i)) h) (FirstGreater-apply (λ x i. ks x (in_args i)) (λ x i. kt x (in_args i)) d)

    SomeReaches-apply : {ss : Trees} {t : Tree} → ((x : ℕ) → OccursIn x ss → Known x) → ((x : ℕ) → Occurs x t → Known x) → SomeReaches rank above ss t → SomeReaches rank below (apply_all σ ss) (apply σ t)
    SomeReaches-apply ks kt is_it = is_it
    SomeReaches-apply ks kt (is_greater h) = is_greater (PathOrder-apply (λ x i. ks x (in_first i)) kt h)
    SomeReaches-apply ks kt (a_later h) = a_later (SomeReaches-apply (λ x i. ks x (in_later i)) kt h)

    Exceeds-apply : {s : Tree} {ts : Trees} → ((x : ℕ) → Occurs x s → Known x) → ((x : ℕ) → OccursIn x ts → Known x) → Exceeds rank above s ts → Exceeds rank below (apply σ s) (apply_all σ ts)
    Exceeds-apply ks kt no_more = no_more
    Exceeds-apply ks kt (one_more h hs) = one_more (PathOrder-apply ks (λ x i. kt x (in_first i)) h) (Exceeds-apply ks (λ x i. kt x (in_later i)) hs)

    FirstGreater-apply : {ss ts : Trees} → ((x : ℕ) → OccursIn x ss → Known x) → ((x : ℕ) → OccursIn x ts → Known x) → FirstGreater rank above ss ts → FirstGreater rank below (apply_all σ ss) (apply_all σ ts)
    FirstGreater-apply ks kt (differ h) = differ (PathOrder-apply (λ x i. ks x (in_first i)) (λ x i. kt x (in_first i)) h)
    FirstGreater-apply ks kt (agree d) = agree (FirstGreater-apply (λ x i. ks x (in_later i)) (λ x i. kt x (in_later i)) d)

module _ (rank : Sym → ℕ) (above : ℕ → ℕ → Type 0) where
  -- a term is greater than each of its arguments
  pub exceeds_arguments : (f : Sym) (ts us : Trees) → ((t : Tree) → SomeReaches rank above us t → SomeReaches rank above ts t) → Exceeds rank above (app f ts) us
  exceeds_arguments f ts none all = no_more
  exceeds_arguments f ts (more u us) all = one_more (by_argument (all u is_it)) (exceeds_arguments f ts us (λ t p. all t (a_later p)))

  -- a subterm that became smaller makes the term smaller
  mutual
    pub contexts : {s t : Tree} → Within (PathOrder rank above) s t → PathOrder rank above s t
    contexts (at_root l) = l
    contexts (under {f = f} {us = us} o) = by_arguments (exceeds_smaller f us o (λ t p. p)) (first_greater o)

    first_greater : {ss ts : Trees} → WithinOne (PathOrder rank above) ss ts → FirstGreater rank above ss ts
    first_greater (at_first w) = differ (contexts w)
    first_greater (at_later o) = agree (first_greater o)

    exceeds_smaller : (f : Sym) (ss : Trees) {ts us : Trees} → WithinOne (PathOrder rank above) ts us → ((t : Tree) → SomeReaches rank above ts t → SomeReaches rank above ss t) → Exceeds rank above (app f ss) us
    exceeds_smaller f ss (at_first {u = u} {v = v} {ts = ts} w) all = one_more (by_argument (all v (is_greater (contexts w)))) (exceeds_arguments f ss ts (λ t p. all t (a_later p)))
    exceeds_smaller f ss (at_later {t = t} o) all = one_more (by_argument (all t is_it)) (exceeds_smaller f ss o (λ v p. all v (a_later p)))

  -- transitive, where the relation of variables is
  module _ (above_transitive : (x y z : ℕ) → above x y → above y z → above x z) where
    -- where that is known of fewer nodes
    module _ (n : ℕ) (smaller : (s t u : Tree) → nodes s + nodes t + nodes u ≤ n → PathOrder rank above s t → PathOrder rank above t u → PathOrder rank above s u) where
      reaches : {ss : Trees} {t : Tree} (u : Tree) → nodes_all ss + nodes t + nodes u ≤ n → SomeReaches rank above ss t → PathOrder rank above t u → SomeReaches rank above ss u
      reaches u h is_it b = is_greater b
      reaches u h (is_greater {s = s} {t = t} a) b = is_greater (smaller s t u (omega arith) a b)
      reaches u h (a_later p) b = a_later (reaches u (omega arith) p b)

      through : (s : Tree) {ts : Trees} {u : Tree} → nodes s + nodes_all ts + nodes u ≤ n → Exceeds rank above s ts → SomeReaches rank above ts u → PathOrder rank above s u
      through s h no_more p = elim p [ ]
      through s h (one_more a e) is_it = a
      through s {u = u} h (one_more {t = t} a e) (is_greater b) = smaller s t u (omega arith) a b
      through s h (one_more a e) (a_later p) = through s (omega arith) e p

      exceeds : (s t : Tree) {us : Trees} → nodes s + nodes t + nodes_all us ≤ n → PathOrder rank above s t → Exceeds rank above t us → Exceeds rank above s us
      exceeds s t h a no_more = no_more
      exceeds s t h a (one_more {t = u} b e) = one_more (smaller s t u (omega arith) a b) (exceeds s t (omega arith) a e)

      differs : {ss ts us : Trees} → nodes_all ss + nodes_all ts + nodes_all us ≤ n → FirstGreater rank above ss ts → FirstGreater rank above ts us → FirstGreater rank above ss us
      differs h (differ {s = s} {t = t} a) (differ {t = u} b) = differ (smaller s t u (omega arith) a b)
      differs h (differ a) (agree e) = differ a
      differs h (agree d) (differ b) = differ b
      differs h (agree d) (agree e) = agree (differs (omega arith) d e)

      larger : {s t u : Tree} → nodes s + nodes t + nodes u ≤ n + 1 → PathOrder rank above s t → PathOrder rank above t u → PathOrder rank above s u
      larger h (by_variables {x = x} {y = y} a) (by_variables {y = z} b) = by_variables (above_transitive x y z a b)
      larger {u = u} h (by_argument p) b = by_argument (reaches u (omega arith) p b)
      larger {s = s} h (by_head r e) (by_argument p) = through s (omega arith) e p
      larger {s = s} {t = t} h (by_head r e) (by_head q k) = by_head (omega arith) (exceeds s t (omega arith) (by_head r e) k)
      larger {s = s} {t = t} h (by_head r e) (by_arguments k d) = by_head r (exceeds s t (omega arith) (by_head r e) k)
      larger {s = s} h (by_arguments e d) (by_argument p) = through s (omega arith) e p
      larger {s = s} {t = t} h (by_arguments e d) (by_head q k) = by_head q (exceeds s t (omega arith) (by_arguments e d) k)
      larger {s = s} {t = t} h (by_arguments e d) (by_arguments k c) = by_arguments (exceeds s t (omega arith) (by_arguments e d) k) (differs (omega arith) d c)

    transitive_below : (n : ℕ) (s t u : Tree) → nodes s + nodes t + nodes u ≤ n → PathOrder rank above s t → PathOrder rank above t u → PathOrder rank above s u
    transitive_below zero s t u h a b = absurd (omega (arith, nodes_pos s))
    transitive_below (suc n) s t u h a b = larger n (transitive_below n) (omega arith) a b

    pub transitive : (s t u : Tree) → PathOrder rank above s t → PathOrder rank above t u → PathOrder rank above s u
    transitive s t u = transitive_below (nodes s + nodes t + nodes u) s t u (omega arith)

    -- irreflexive, where the relation of variables is too
    module _ (above_irreflexive : (x : ℕ) → above x x → ⊥) where
      variables_differ : {x y : ℕ} → above x y → x ≡ y → ⊥
      variables_differ {x = x} a e = above_irreflexive x (subst (λ z. above x z) (sym e) a)

      mutual
        not_same : (t u : Tree) → PathOrder rank above t u → t ≡ u → ⊥
        not_same _ _ (by_variables a) e = variables_differ a cc
        not_same (app f ts) u (by_argument p) e = not_reached ts u p (subst (λ (s : Tree). Exceeds rank above s ts) e (exceeds_arguments f ts ts (λ t q. q))) (let n : nodes u ≡ nodes_all ts + 1 = ap nodes (sym e) in omega arith)
        not_same (app f ts) (app g us) (by_head r k) e = let same_head : f ≡ g = cc in absurd (omega (arith, ap rank same_head))
        not_same (app f ts) (app g us) (by_arguments k d) e = let same_arguments : ts ≡ us = cc in all_not_same ts us d same_arguments

        not_reached : (ts : Trees) (u : Tree) → SomeReaches rank above ts u → Exceeds rank above u ts → nodes_all ts < nodes u → ⊥
        not_reached none u p e h = elim p [ ]
        not_reached (more t ts) u is_it e h = absurd (omega arith)
        not_reached (more t ts) u (is_greater a) (one_more b e) h = not_same t t (transitive t u t a b) refl
        not_reached (more t ts) u (a_later p) (one_more b e) h = not_reached ts u p e (omega arith)

        all_not_same : (ts us : Trees) → FirstGreater rank above ts us → ts ≡ us → ⊥
        all_not_same none us d e = elim d [ ]
        all_not_same (more t ts) none d e = elim d [ ]
        all_not_same (more t ts) (more u us) (differ a) e = not_same t u a cc
        all_not_same (more t ts) (more u us) (agree d) e = all_not_same ts us d cc

      pub irreflexive : (t : Tree) → PathOrder rank above t t → ⊥
      irreflexive t l = not_same t t l refl
