-- The most general unifier of two terms over a signature is over it: a foreign symbol in it would stay in each of its instances,
-- and a unifier without foreign symbols is one of these.
use Rattle.std.proofs.Common.{◌≡◌, ℕ, ◌==◌, Bool, true, false, refl, sym, ap, ap₂, ◌∙◌, ◌⊎◌, inl, inr, arith}
use Rattle.std.proofs.lemmas.Bool.{eqb-true}
use Rattle.std.proofs.lemmas.Bool.Decides.{nat_tests}
use Rattle.uc_term.specs.declared.node.Sym.{Sym}
use Rattle.uc_term.specs.Tree.{Tree, var, app, Trees, none, more, count, apply, apply_all}
use Rattle.uc_term.specs.Over.{IsTerm, AreOver}
use Rattle.uc_unify.specs.Unifiers.{IsMostGeneral}
use Rattle.uc_ground.proofs.Grounded.{count-apply_all}

module _ (has : Sym → Type 0) (arity : Sym → ℕ) (known : (f : Sym) → has f ⊎ (has f → ⊥)) where
  -- a term whose head is foreign becomes a variable

  abbrev own_or_variable : (f : Sym) → has f ⊎ (has f → ⊥) → Bool → Trees → Tree
  own_or_variable f (inl h) true ts = app f ts
  own_or_variable f (inl h) false ts = var 0
  own_or_variable f (inr n) b ts = var 0

  abbrev mutual
    own : Tree → Tree
    own (var x) = var x
    own (app f ts) = own_or_variable f (known f) (count ts == arity f) (own_all ts)

    own_all : Trees → Trees
    own_all none = none
    own_all (more t ts) = more (own t) (own_all ts)

  stays_own : (f : Sym) (k : has f ⊎ (has f → ⊥)) (b : Bool) (ts : Trees) → has f → b ≡ true → own_or_variable f k b ts ≡ app f ts
  stays_own f (inl h) true ts p e = refl
  stays_own f (inl h) false ts p e = absurd cc
  stays_own f (inr n) b ts p e = absurd (n p)

  same_count : (us ts : Trees) (f : Sym) → count us ≡ count ts → count ts ≡ arity f → (count us == arity f) ≡ true
  same_count us ts f e q = grind (arith, nat_tests)

  mutual
    own-apply : (σ : ℕ → Tree) (t : Tree) → IsTerm has arity t → own (apply σ t) ≡ apply (λ x. own (σ x)) t
    own-apply σ (var x) a = refl
    own-apply σ (app f ts) a = stays_own f (known f) (count (apply_all σ ts) == arity f) (own_all (apply_all σ ts)) a.0 (same_count (apply_all σ ts) ts f (count-apply_all σ ts) a.1) ∙ ap (app f) (own_all-apply σ ts a.2)

    own_all-apply : (σ : ℕ → Tree) (ts : Trees) → AreOver has arity (λ _. Unit {0}) ts → own_all (apply_all σ ts) ≡ apply_all (λ x. own (σ x)) ts
    own_all-apply σ none a = refl
    own_all-apply σ (more t ts) a = ap₂ more (own-apply σ t a.0) (own_all-apply σ ts a.1)

  -- an instance of a term that is the term without foreign symbols: then the term has none

  head_own : (f : Sym) (k : has f ⊎ (has f → ⊥)) (b : Bool) (us vs : Trees) → app f us ≡ own_or_variable f k b vs → has f × (b ≡ true) × (us ≡ vs)
  head_own f (inl h) true us vs e = (h, refl, cc)
  head_own f (inl h) false us vs e = absurd cc
  head_own f (inr n) b us vs e = absurd cc

  first_same : (t u : Tree) (ts us : Trees) → more t ts ≡ more u us → t ≡ u
  first_same t u ts us e = cc

  later_same : (t u : Tree) (ts us : Trees) → more t ts ≡ more u us → ts ≡ us
  later_same t u ts us e = cc

  mutual
    none_foreign : (τ : ℕ → Tree) (u : Tree) → apply τ u ≡ own u → IsTerm has arity u
    none_foreign τ (var x) e = tt
    none_foreign τ (app f us) e =
        let s = head_own f (known f) (count us == arity f) (apply_all τ us) (own_all us) e in
        (s.0, eqb-true (count us) (arity f) s.1, none_foreign_in τ us s.2)

    none_foreign_in : (τ : ℕ → Tree) (us : Trees) → apply_all τ us ≡ own_all us → AreOver has arity (λ _. Unit {0}) us
    none_foreign_in τ none e = tt
    none_foreign_in τ (more u us) e = (none_foreign τ u (first_same (apply τ u) (own u) (apply_all τ us) (own_all us) e), none_foreign_in τ us (later_same (apply τ u) (own u) (apply_all τ us) (own_all us) e))

  pub unifier_over : (s t : Tree) (σ : ℕ → Tree) → IsTerm has arity s → IsTerm has arity t → IsMostGeneral s t σ → (x : ℕ) → IsTerm has arity (σ x)
  unifier_over s t σ a b g x =
      let τ : ℕ → Tree = λ y. own (σ y) in
      let unifies : apply τ s ≡ apply τ t = sym (own-apply σ s a) ∙ ap own g.unifies ∙ own-apply σ t b in
      none_foreign τ (σ x) (g.general τ unifies x)
