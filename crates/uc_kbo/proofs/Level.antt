-- One level of the comparison.
use Rattle.std.proofs.Common.{◌≡◌, ◌≢◌, ◌↔◌, ℕ, ◌<◌, ◌≤◌, List, [], ◌∷◌, ◌++◌, refl, sym, ap, subst, arith, ◌⊎◌, inl, inr, Bool, true, false, length, length-append, count_by, cond}
use Rattle.std.proofs.lemmas.List.Sums.{sum_by-cons}
use Rattle.uc_term.specs.declared.node.Sym.{Sym}
use Rattle.uc_term.specs.Tree.{Tree, var, app, Trees, more, of_list, count}
use Rattle.uc_term.proofs.Terms.{count-of_list}
use Rattle.uc_kbo.specs.Kbo.{Covers, Weighing, weight, Kbo, by_variables, by_tower, Tower, by_weight, by_head, by_args, FirstGreater, first_here, first_same}
use Rattle.uc_kbo.specs.Order.{tower_weight, tower_variables, irreflexive_by}

-- what the tests and the order of variables owe
pub record Agree (test : ℕ → ℕ → Bool) (above : ℕ → ℕ → Type 0) : Type 0 where
  pub apart : (x : ℕ) → above x x → ⊥
  pub passes : (x y : ℕ) → above x y → (k : ℕ) → test k y ≡ true → test k x ≡ true

module _ (w : Weighing) (test : ℕ → ℕ → Bool) (above : ℕ → ℕ → Type 0) (agree : Agree test above) where
  -- what decides where the weights are equal
  abbrev pub Level : Tree → Tree → Type 0
  Level (app f ss) (app g ts) = (w.rank g (count ts) < w.rank f (count ss)) ⊎ ((f ≡ g) × (count ss ≡ count ts) × FirstGreater w test above ss ts)
  Level (app f ss) (var x) = (y : ℕ) × (Tower w (app f ss) y × ((y ≡ x) ⊎ above y x))
  Level (var x) (var y) = above x y
  Level (var x) (app g ts) = ⊥

  abbrev pub Decided : Tree → Tree → Type 0 → Type 0
  Decided s t Else = Covers test s t × ((weight w t < weight w s) ⊎ ((weight w s ≡ weight w t) × Else))

  one_more : (p q : Bool) → (p ≡ true → q ≡ true) → cond {A = ℕ} p 1 0 ≤ cond q 1 0
  one_more true true h = omega arith
  one_more true false h = absurd (let e = h refl in grind arith)
  one_more false true h = omega arith
  one_more false false h = omega arith

  passes_all : (x y k : ℕ) → above x y → count_by (test k) (y ∷ []) ≤ count_by (test k) (x ∷ [])
  passes_all x y k a = omega (arith, one_more (test k y) (test k x) (agree.passes x y a k), sum_by-cons (λ z. cond {A = ℕ} (test k z) 1 0) x [], sum_by-cons (λ z. cond {A = ℕ} (test k z) 1 0) y [])

  tower_covers : (s : Tree) (x y : ℕ) → Tower w s y → (y ≡ x) ⊎ above y x → Covers test s (var x)
  tower_covers s x y p (inl e) k = omega (arith, ap (count_by (test k)) (tower_variables w p), ap (λ z. count_by (test k) (z ∷ [])) e)
  tower_covers s x y p (inr a) k = omega (arith, ap (count_by (test k)) (tower_variables w p), passes_all y x k a)

  tower_level : (s : Tree) (x y : ℕ) → Tower w s y → (y ≡ x) ⊎ above y x → Level s (var x)
  tower_level (var z) x y p d = elim p [ ]
  tower_level (app f ss) x y p d = (y, (p, d))

  there : (s t : Tree) → Kbo w test above s t → Decided s t (Level s t)
  there (var x) (var y) (by_variables a) = (λ k. passes_all x y k a, inr (refl, a))
  there s t (by_tower {x = x} {y = y} p d) = (tower_covers s x y p d, inr (tower_weight w p, tower_level s x y p d))
  there s t (by_weight c l) = (c, inl l)
  there (app f ss) (app g ts) (by_head c e r) = (c, inr (e, inl r))
  there (app f ss) (app _ ts) (by_args c e n d) = (c, inr (e, inr (refl, n, d)))

  at_level : (s t : Tree) → Covers test s t → weight w s ≡ weight w t → Level s t → Kbo w test above s t
  at_level (app f ss) (app g ts) c e (inl r) = by_head c e r
  at_level (app f ss) (app g ts) c e (inr (q, n, d)) = subst (λ (h : Sym). Kbo w test above (app f ss) (app h ts)) q (by_args (subst (λ (h : Sym). Covers test (app f ss) (app h ts)) (sym q) c) (subst (λ (h : Sym). weight w (app f ss) ≡ weight w (app h ts)) (sym q) e) n d)
  at_level (app f ss) (var x) c e h = by_tower h.1.0 h.1.1
  at_level (var x) (var y) c e h = by_variables h
  at_level (var x) (app g ts) c e h = absurd h

  back : (s t : Tree) → Decided s t (Level s t) → Kbo w test above s t
  back s t (c, inl l) = by_weight c l
  back s t (c, inr (e, h)) = at_level s t c e h

  pub kbo_level : (s t : Tree) → Kbo w test above s t ↔ Decided s t (Level s t)
  kbo_level s t = (there s t, back s t)

  pub irreflexive : (t : Tree) → Kbo w test above t t → ⊥
  irreflexive t l = irreflexive_by w test above agree.apart t l

  first_cases : {s t : Tree} {ss ts : Trees} → FirstGreater w test above (more s ss) (more t ts) → Kbo w test above s t ⊎ ((s ≡ t) × FirstGreater w test above ss ts)
  first_cases (first_here l) = inl l
  first_cases (first_same d) = inr (refl, d)

  -- behind what both have in front, the first terms that differ decide
  first : (cs : List Tree) (s t : Tree) (rs rt : List Tree) → s ≢ t → FirstGreater w test above (of_list (cs ++ s ∷ rs)) (of_list (cs ++ t ∷ rt)) → Kbo w test above s t
  first [] s t rs rt ne d = elim (first_cases d) [ inl l ↦ l | inr p ↦ absurd (ne p.0) ]
  first (c ∷ cs) s t rs rt ne d = elim (first_cases d) [ inl l ↦ absurd (irreflexive c l) | inr p ↦ first cs s t rs rt ne p.1 ]

  only : (cs : List Tree) (s t : Tree) (rs rt : List Tree) → Kbo w test above s t → FirstGreater w test above (of_list (cs ++ s ∷ rs)) (of_list (cs ++ t ∷ rt))
  only [] s t rs rt l = first_here l
  only (c ∷ cs) s t rs rt l = first_same (only cs s t rs rt l)

  as_many : (cs : List Tree) (s t : Tree) (rs rt : List Tree) → length rs ≡ length rt → count (of_list (cs ++ s ∷ rs)) ≡ count (of_list (cs ++ t ∷ rt))
  as_many cs s t rs rt e = omega (arith, count-of_list (cs ++ s ∷ rs), count-of_list (cs ++ t ∷ rt), length-append cs (s ∷ rs), length-append cs (t ∷ rt), e)

  pub level_up : (f : Sym) (cs : List Tree) (s t : Tree) (rs rt : List Tree) → length rs ≡ length rt → s ≢ t → Level (app f (of_list (cs ++ s ∷ rs))) (app f (of_list (cs ++ t ∷ rt))) ↔ Kbo w test above s t
  level_up f cs s t rs rt e ne = (
    λ h. elim h [ inl r ↦ absurd (omega (arith, r, ap (w.rank f) (as_many cs s t rs rt e))) | inr p ↦ first cs s t rs rt ne p.2 ],
    λ l. inr (refl, as_many cs s t rs rt e, only cs s t rs rt l),
  )

  pub differ_up : (f : Sym) (cs : List Tree) (s t : Tree) (rs rt : List Tree) → s ≢ t → app f (of_list (cs ++ s ∷ rs)) ≢ app f (of_list (cs ++ t ∷ rt))
  differ_up f cs s t rs rt ne e = go cs cc
    where
      go : (cs : List Tree) → of_list (cs ++ s ∷ rs) ≡ of_list (cs ++ t ∷ rt) → ⊥
      go [] e = ne cc
      go (c ∷ cs) e = go cs cc
