-- The lexicographic path order is total on ground terms, where no two symbols of the signature have one rank; and the
-- least constant is the least ground term.
use Rattle.std.proofs.Common.{◌≡◌, ℕ, ◌<◌, ◌≤◌, refl, sym, ap, ap₂, ◌∙◌, subst, arith, ◌⊎◌, inl, inr}
use Rattle.uc_term.specs.declared.node.Sym.{Sym}
use Rattle.uc_term.specs.Tree.{Tree, var, app, Trees, none, more, count}
use Rattle.uc_term.specs.Over.{IsGround, AreGround}
use Rattle.uc_lpo.specs.PathOrder.{PathOrder, by_argument, by_head, by_arguments, SomeReaches, is_it, is_greater, a_later, Exceeds, no_more, one_more, FirstGreater, differ, agree}

module _ (rank : Sym → ℕ) (above : ℕ → ℕ → Type 0) (has : Sym → Type 0) (arity : Sym → ℕ) (distinct : (f g : Sym) → has f → has g → rank f ≡ rank g → f ≡ g) where
  data Decided : Tree → Tree → Type 0 where
    greater : {s t : Tree} → PathOrder rank above s t → Decided s t
    equal : {s t : Tree} → s ≡ t → Decided s t
    less : {s t : Tree} → PathOrder rank above t s → Decided s t

  data AllDecided : Trees → Trees → Type 0 where
    all_greater : {ss ts : Trees} → FirstGreater rank above ss ts → AllDecided ss ts
    all_equal : {ss ts : Trees} → ss ≡ ts → AllDecided ss ts
    all_less : {ss ts : Trees} → FirstGreater rank above ts ss → AllDecided ss ts

  add_left : {s : Tree} {ss : Trees} {t : Tree} → Decided s t → SomeReaches rank above ss t ⊎ Exceeds rank above t ss → SomeReaches rank above (more s ss) t ⊎ Exceeds rank above t (more s ss)
  add_left (greater l) r = inl (is_greater l)
  add_left {ss = ss} {t = t} (equal e) r = inl (subst (λ (s : Tree). SomeReaches rank above (more s ss) t) (sym e) is_it)
  add_left (less l) (inl p) = inl (a_later p)
  add_left (less l) (inr e) = inr (one_more l e)

  add_right : {t : Tree} {ts : Trees} {s : Tree} → Decided s t → SomeReaches rank above ts s ⊎ Exceeds rank above s ts → SomeReaches rank above (more t ts) s ⊎ Exceeds rank above s (more t ts)
  add_right (less l) r = inl (is_greater l)
  add_right {ts = ts} {s = s} (equal e) r = inl (subst (λ (t : Tree). SomeReaches rank above (more t ts) s) e is_it)
  add_right (greater l) (inl p) = inl (a_later p)
  add_right (greater l) (inr e) = inr (one_more l e)

  add_first : {s t : Tree} {ss ts : Trees} → Decided s t → AllDecided ss ts → AllDecided (more s ss) (more t ts)
  add_first (greater l) r = all_greater (differ l)
  add_first (less l) r = all_less (differ l)
  add_first {t = t} {ss = ss} {ts = ts} (equal e) (all_greater d) = all_greater (subst (λ (s : Tree). FirstGreater rank above (more s ss) (more t ts)) (sym e) (agree d))
  add_first {t = t} {ss = ss} {ts = ts} (equal e) (all_less d) = all_less (subst (λ (s : Tree). FirstGreater rank above (more t ts) (more s ss)) (sym e) (agree d))
  add_first (equal e) (all_equal d) = all_equal (ap₂ more e d)

  by_ranks : (f g : Sym) (ss ts : Trees) → has f → has g → (rank g < rank f) ⊎ (rank f ≤ rank g) → (rank f < rank g) ⊎ (rank g ≤ rank f) → Exceeds rank above (app g ts) ss → Exceeds rank above (app f ss) ts → (f ≡ g → AllDecided ss ts) → Decided (app f ss) (app g ts)
  by_ranks f g ss ts hf hg (inl r) q es et all = greater (by_head r et)
  by_ranks f g ss ts hf hg (inr r) (inl q) es et all = less (by_head q es)
  by_ranks f g ss ts hf hg (inr r) (inr q) es et all = let e = distinct f g hf hg (omega arith) in go f g ss ts e es et (all e)
    where
      go : (f g : Sym) (ss ts : Trees) → f ≡ g → Exceeds rank above (app g ts) ss → Exceeds rank above (app f ss) ts → AllDecided ss ts → Decided (app f ss) (app g ts)
      go f g ss ts e es et (all_greater d) = greater (subst (λ (h : Sym). PathOrder rank above (app f ss) (app h ts)) e (by_arguments et d))
      go f g ss ts e es et (all_less d) = less (subst (λ (h : Sym). PathOrder rank above (app g ts) (app h ss)) (sym e) (by_arguments es d))
      go f g ss ts e es et (all_equal d) = equal (ap₂ app e d)

  module _ (f : Sym) (ss : Trees) (known : IsGround has arity (app f ss)) (parts : (t : Tree) → IsGround has arity t → SomeReaches rank above ss t ⊎ Exceeds rank above t ss) (lists : (ts : Trees) → AreGround has arity ts → count ss ≡ count ts → AllDecided ss ts) where
    joined : (g : Sym) (ts : Trees) → IsGround has arity (app g ts) → SomeReaches rank above ss (app g ts) ⊎ Exceeds rank above (app g ts) ss → SomeReaches rank above ts (app f ss) ⊎ Exceeds rank above (app f ss) ts → Decided (app f ss) (app g ts)
    joined g ts h (inl p) r = greater (by_argument p)
    joined g ts h (inr e) (inl p) = less (by_argument p)
    joined g ts h (inr e) (inr k) = by_ranks f g ss ts known.0 h.0 (grind arith) (grind arith) e k (λ q. lists ts h.2 (known.1 ∙ ap arity q ∙ sym h.1))

    mutual
      against : (t : Tree) → IsGround has arity t → Decided (app f ss) t
      against (var x) h = absurd h
      against (app g ts) h = joined g ts h (parts (app g ts) h) (against_all ts h.2)

      against_all : (ts : Trees) → AreGround has arity ts → SomeReaches rank above ts (app f ss) ⊎ Exceeds rank above (app f ss) ts
      against_all none h = inr no_more
      against_all (more t ts) h = add_right (against t h.0) (against_all ts h.1)

  mutual
    decided : (s t : Tree) → IsGround has arity s → IsGround has arity t → Decided s t
    decided (var x) t h k = absurd h
    decided (app f ss) t h k = against f ss h (λ u g. decided_arguments ss u h.2 g) (λ ts g e. decided_lists ss ts h.2 g e) t k

    decided_arguments : (ss : Trees) (t : Tree) → AreGround has arity ss → IsGround has arity t → SomeReaches rank above ss t ⊎ Exceeds rank above t ss
    decided_arguments none t h k = inr no_more
    decided_arguments (more s ss) t h k = add_left (decided s t h.0 k) (decided_arguments ss t h.1 k)

    decided_lists : (ss ts : Trees) → AreGround has arity ss → AreGround has arity ts → count ss ≡ count ts → AllDecided ss ts
    decided_lists none none h k e = all_equal refl
    decided_lists none (more t ts) h k e = absurd (omega arith)
    decided_lists (more s ss) none h k e = absurd (omega arith)
    decided_lists (more s ss) (more t ts) h k e = add_first (decided s t h.0 k.0) (decided_lists ss ts h.1 k.1 (omega arith))

  to_sum : {s t : Tree} → Decided s t → PathOrder rank above s t ⊎ ((s ≡ t) ⊎ PathOrder rank above t s)
  to_sum (greater l) = inl l
  to_sum (equal e) = inr (inl e)
  to_sum (less l) = inr (inr l)

  -- of two ground terms one is greater, or they are equal
  pub total : (s t : Tree) → IsGround has arity s → IsGround has arity t → PathOrder rank above s t ⊎ ((s ≡ t) ⊎ PathOrder rank above t s)
  total s t g h = to_sum (decided s t g h)

  -- a ground term is the constant c, or greater, where no constant of the signature has a lower rank
  module _ (c : Sym) (has_c : has c) (lowest : (g : Sym) → has g → arity g ≡ 0 → rank c ≤ rank g) where
    reached : (f : Sym) (t : Tree) (ts : Trees) → (t ≡ app c none) ⊎ PathOrder rank above t (app c none) → PathOrder rank above (app f (more t ts)) (app c none)
    reached f t ts (inl e) = subst (λ (u : Tree). PathOrder rank above (app f (more t ts)) u) e (by_argument is_it)
    reached f t ts (inr l) = by_argument (is_greater l)

    constant : (f : Sym) → has f → (rank c < rank f) ⊎ (rank f ≤ rank c) → rank c ≤ rank f → (app f none ≡ app c none) ⊎ PathOrder rank above (app f none) (app c none)
    constant f h (inl r) q = inr (by_head r no_more)
    constant f h (inr r) q = inl (ap (λ (g : Sym). app g none) (distinct f c h has_c (omega arith)))

    pub bottom : (t : Tree) → IsGround has arity t → (t ≡ app c none) ⊎ PathOrder rank above t (app c none)
    bottom (var x) h = absurd h
    bottom (app f none) h = let low = lowest f h.0 (sym h.1) in constant f h.0 (grind arith) low
    bottom (app f (more t ts)) h = inr (reached f t ts (bottom t h.2.0))
