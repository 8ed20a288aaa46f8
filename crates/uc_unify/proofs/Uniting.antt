-- The two places of a pair in the trees of classes.
use Rattle.std.proofs.Common.{◌≡◌, ◌≢◌, ℕ, ◌+◌, ◌<◌, ◌≤◌, List, [], ◌∷◌, ◌++◌, length, map, get_or, set, min, max, refl, sym, ap, ◌∙◌, subst, arith, ◌⊎◌, inl, inr, length-append}
use Rattle.std.proofs.lemmas.List.{get_or_default}
use Rattle.uc_term.specs.declared.node.Sym.{Sym}
use Rattle.uc_term.specs.declared.node.Node.{Node}
use Rattle.uc_term.specs.declared.node.Node.TheVariants.{Var, App}
use Rattle.uc_term.specs.Flat.{AreWhole}
use Rattle.uc_unify.specs.Closure.{class, AllBelow, pairs_from, AreClasses, count_from, left_of, Advances, HasNoInstances, HasArguments}
use Rattle.uc_unify.specs.Forest.{parent, AreSameTrees, IsRootOf, IsForest}
use Rattle.uc_unify.proofs.Fitting.{fits_args, fits_few, length-pairs_from}
use Rattle.uc_unify.proofs.Linking.{count_less, kept, linked}
use Rattle.uc_unify.proofs.Relabel.{relabel, advances_same, left_at, right_at, both_at, clash_at}

-- the roots of the two are found one after the other
pub record AreFound (old mid now : List ℕ) (p q a b : ℕ) : Type 0 where
  pub first : AreSameTrees old mid
  pub first_root : IsRootOf old mid p a
  pub then : AreSameTrees mid now
  pub then_root : IsRootOf mid now q b

module _ (old mid now : List ℕ) (p q a b : ℕ) (found : AreFound old mid now p q a b) where
  pub a_in : a < length now
  a_in = let h = found.first_root.within in let l = found.then.long in omega arith

  a_root : parent now a ≡ a
  a_root = (found.then.roots a found.first_root.within).1 found.first_root.is_root

  pub fewer : a ≢ b → (new : List ℕ) → new ≡ set now (max a b) (min a b) → count_from 0 new + 1 ≡ count_from 0 old
  fewer ne new e = ap (λ l. count_from 0 l + 1) e ∙ go (grind arith) ∙ found.then.count ∙ found.first.count
    where
      go : (a < b) ⊎ ((a ≡ b) ⊎ (b < a)) → count_from 0 (set now (max a b) (min a b)) + 1 ≡ count_from 0 now
      go (inl h) =
          let high : max a b ≡ b = omega arith in
          let low : min a b ≡ a = omega arith in
          rw (high, low) (count_less now 0 b a found.then_root.within (found.then_root.is_root ∙ (let z : b ≡ 0 + b = omega arith in z)) (λ e. absurd (omega arith)))
      go (inr (inl e)) = absurd (ne e)
      go (inr (inr h)) =
          let high : max a b ≡ a = omega arith in
          let low : min a b ≡ b = omega arith in
          rw (high, low) (count_less now 0 a b a_in (a_root ∙ (let z : a ≡ 0 + a = omega arith in z)) (λ e. absurd (omega arith)))

  pub less : a ≢ b → (new : List ℕ) → new ≡ set now (max a b) (min a b) → (pairs : List (ℕ × ℕ)) → left_of new pairs < left_of old (pairs ++ (p, q) ∷ [])
  less ne new e pairs = omega (arith, fewer ne new e, length-append pairs ((p, q) ∷ []))

  pub less_both : a ≢ b → (new : List ℕ) → new ≡ set now (max a b) (min a b) → (pairs new_pairs : List (ℕ × ℕ)) (ns : List Node) (s t n : ℕ) → AreWhole ns → length ns ≤ 8192 → HasArguments ns s n → new_pairs ≡ pairs ++ pairs_from ns (s + 1) (t + 1) n → left_of new new_pairs < left_of old (pairs ++ (p, q) ∷ [])
  less_both ne new e pairs new_pairs ns s t n w few h is = omega (arith, fewer ne new e, ap length is, length-append pairs ((p, q) ∷ []), length-append pairs (pairs_from ns (s + 1) (t + 1) n), length-pairs_from ns n (s + 1) (t + 1), fits_few ns w (s + 1) n (fits_args ns w s n h))

  module _ (ns : List Node) (heads : List ℕ) (hp : p < length ns) (hq : q < length ns) (classes : List ℕ) (k : AreClasses ns classes) (f : IsForest old heads classes) where
    f_mid : IsForest mid heads classes
    f_mid = kept old mid heads classes f found.first

    f_now : IsForest now heads classes
    f_now = kept mid now heads classes f_mid found.then

    a_within : a < length classes
    a_within = let h = a_in in let l = f_now.long_parents in omega arith

    b_within : b < length classes
    b_within = let h = found.then_root.within in let l = f_now.long_parents in omega arith

    a_class : class classes a ≡ class classes p
    a_class = found.first_root.same (class classes) f.one_class

    b_class : class classes b ≡ class classes q
    b_class = found.then_root.same (class classes) f_mid.one_class

    pub united_same : a ≡ b → (pairs : List (ℕ × ℕ)) → AllBelow (length ns) pairs → (x : List ℕ) × IsForest now heads x × Advances ns classes (pairs ++ (p, q) ∷ []) x pairs
    united_same e pairs below = (classes, f_now, advances_same ns classes pairs p q k below hp hq (sym a_class ∙ ap (class classes) e ∙ b_class))

    module _ (s t : ℕ) (s_read : s ≡ get_or heads a s) (t_read : t ≡ get_or heads b t) where
      s_class : s ≡ class classes a
      s_class = s_read ∙ get_or_default heads a s 0 (let h = a_within in let l = f.long_heads in omega arith) ∙ f_now.head a a_within a_root

      t_class : t ≡ class classes b
      t_class = t_read ∙ get_or_default heads b t 0 (let h = b_within in let l = f.long_heads in omega arith) ∙ f_now.head b b_within found.then_root.is_root

      pub s_is : s ≡ class classes p
      s_is = s_class ∙ a_class

      pub t_is : t ≡ class classes q
      t_is = t_class ∙ b_class

      pub s_in : s < length ns
      s_in = subst (λ (c : ℕ). c < length ns) (sym s_is) (k.within p hp)

      pub t_in : t < length ns
      t_in = subst (λ (c : ℕ). c < length ns) (sym t_is) (k.within q hq)

      pub differ : a ≢ b → s ≢ t
      differ ne e = ne (f_now.one_root a b a_within b_within a_root found.then_root.is_root (sym s_class ∙ e ∙ t_class))

      linked_at : a ≢ b → (from to : ℕ) → from ≢ to → ((s ≡ from) × (t ≡ to)) ⊎ ((s ≡ to) × (t ≡ from)) → (new new_heads : List ℕ) → new ≡ set now (max a b) (min a b) → new_heads ≡ set heads (min a b) to → IsForest new new_heads (map (relabel from to) classes)
      linked_at ne from to apart are new new_heads e e' = rw (e, e') (go (grind arith) are)
        where
          go : (a < b) ⊎ ((a ≡ b) ⊎ (b < a)) → ((s ≡ from) × (t ≡ to)) ⊎ ((s ≡ to) × (t ≡ from)) → IsForest (set now (max a b) (min a b)) (set heads (min a b) to) (map (relabel from to) classes)
          go (inl h) r =
              let high : max a b ≡ b = omega arith in
              let low : min a b ≡ a = omega arith in
              rw (high, low) (linked now heads classes f_now a b from to h b_within a_root found.then_root.is_root (ahead r) apart)
            where
              ahead : ((s ≡ from) × (t ≡ to)) ⊎ ((s ≡ to) × (t ≡ from)) → ((class classes a ≡ from) × (class classes b ≡ to)) ⊎ ((class classes a ≡ to) × (class classes b ≡ from))
              ahead (inl r) = inl (sym s_class ∙ r.0, sym t_class ∙ r.1)
              ahead (inr r) = inr (sym s_class ∙ r.0, sym t_class ∙ r.1)
          go (inr (inl e)) r = absurd (ne e)
          go (inr (inr h)) r =
              let high : max a b ≡ a = omega arith in
              let low : min a b ≡ b = omega arith in
              rw (high, low) (linked now heads classes f_now b a from to h a_within found.then_root.is_root a_root (behind r) apart)
            where
              behind : ((s ≡ from) × (t ≡ to)) ⊎ ((s ≡ to) × (t ≡ from)) → ((class classes b ≡ from) × (class classes a ≡ to)) ⊎ ((class classes b ≡ to) × (class classes a ≡ from))
              behind (inl r) = inr (sym t_class ∙ r.1, sym s_class ∙ r.0)
              behind (inr r) = inl (sym t_class ∙ r.1, sym s_class ∙ r.0)

      module _ (pairs : List (ℕ × ℕ)) (below : AllBelow (length ns) pairs) where
        abbrev all : List (ℕ × ℕ)
        all = pairs ++ (p, q) ∷ []

        module _ (ne : a ≢ b) (new new_heads : List ℕ) (e : new ≡ set now (max a b) (min a b)) where
          pub united_left : (x : ℕ) (d : Node) → get_or ns s d ≡ Var x → new_heads ≡ set heads (min a b) t → (cs : List ℕ) × IsForest new new_heads cs × Advances ns classes all cs pairs
          united_left x d at h = (map (relabel s t) classes, linked_at ne s t (differ ne) (inl (refl, refl)) new new_heads e h, left_at ns classes pairs p q k below hp hq s t s_is t_is (differ ne) x d at (map (relabel s t) classes) refl)

          pub united_right : (x : ℕ) (d : Node) → get_or ns t d ≡ Var x → new_heads ≡ set heads (min a b) s → (cs : List ℕ) × IsForest new new_heads cs × Advances ns classes all cs pairs
          united_right x d at h = (map (relabel t s) classes, linked_at ne t s (λ r. differ ne (sym r)) (inr (refl, refl)) new new_heads e h, right_at ns classes pairs p q k below hp hq s t s_is t_is (differ ne) x d at (map (relabel t s) classes) refl)

          pub united_both : AreWhole ns → (f' : Sym) (n : ℕ) (d : Node) → get_or ns s d ≡ App f' n → get_or ns t d ≡ App f' n → (new_pairs : List (ℕ × ℕ)) → new_pairs ≡ pairs ++ pairs_from ns (s + 1) (t + 1) n → new_heads ≡ set heads (min a b) t → (cs : List ℕ) × IsForest new new_heads cs × Advances ns classes all cs new_pairs
          united_both w f' n d at at' new_pairs is h = (map (relabel s t) classes, linked_at ne s t (differ ne) (inl (refl, refl)) new new_heads e h, both_at ns classes pairs p q k below hp hq s t s_is t_is w f' n d at (differ ne) at' (map (relabel s t) classes) new_pairs refl is)

        pub clashing : AreWhole ns → (f' : Sym) (n : ℕ) (d : Node) → get_or ns s d ≡ App f' n → ((x : ℕ) → get_or ns t d ≡ Var x → ⊥) → (get_or ns t d ≡ App f' n → ⊥) → HasNoInstances ns classes all
        clashing w f' n d at not_var not_app = clash_at ns classes pairs p q k below hp hq s t s_is t_is w f' n d at not_var not_app
