-- Cleaning: variables and foreign symbols are replaced by the least constant.
use Rattle.std.proofs.Common.{◌≡◌, ℕ, ◌==◌, Bool, true, false, refl, ap, ap₂, ◌∙◌, ◌⊎◌, inl, inr, arith}
use Rattle.std.proofs.lemmas.Bool.Decides.{nat_tests}
use Rattle.uc_term.specs.declared.node.Sym.{Sym}
use Rattle.uc_term.specs.Tree.{Tree, var, app, Trees, none, more, apply, apply_all, count}
use Rattle.uc_term.specs.Over.{IsTerm, AreOver, AreGround}
use Rattle.uc_order.specs.Laws.{Meaning, Laws, HasSym, IsGroundOf, least_term}
use Rattle.uc_ground.proofs.Grounded.{count-apply_all}
use Rattle.uc_decide.proofs.GroundSteps.{least_ground}

module _ (m : Meaning) (laws : Laws m) (known : (f : Sym) → HasSym m f ⊎ (HasSym m f → ⊥)) where
  abbrev pub fitted : (f : Sym) → HasSym m f ⊎ (HasSym m f → ⊥) → Bool → Trees → Tree
  fitted f (inl h) true ts = app f ts
  fitted f (inl h) false ts = least_term m
  fitted f (inr n) b ts = least_term m

  abbrev mutual
    pub clean : Tree → Tree
    clean (var x) = least_term m
    clean (app f ts) = fitted f (known f) (count ts == m.arity f) (clean_all ts)

    pub clean_all : Trees → Trees
    clean_all none = none
    clean_all (more t ts) = more (clean t) (clean_all ts)

  fitted_ground : (f : Sym) (k : HasSym m f ⊎ (HasSym m f → ⊥)) (b : Bool) (ts : Trees) → (b ≡ true → count ts ≡ m.arity f) → AreGround (HasSym m) m.arity ts → IsGroundOf m (fitted f k b ts)
  fitted_ground f (inl h) true ts e g = (h, e refl, g)
  fitted_ground f (inl h) false ts e g = least_ground m laws
  fitted_ground f (inr n) b ts e g = least_ground m laws

  count-clean_all : (ts : Trees) → count (clean_all ts) ≡ count ts
  count-clean_all none = refl
  count-clean_all (more t ts) = omega (arith, count-clean_all ts)

  mutual
    pub clean_ground : (t : Tree) → IsGroundOf m (clean t)
    clean_ground (var x) = least_ground m laws
    clean_ground (app f ts) = fitted_ground f (known f) (count ts == m.arity f) (clean_all ts) (λ e. count-clean_all ts ∙ grind (arith, nat_tests)) (clean_all_ground ts)

    clean_all_ground : (ts : Trees) → AreGround (HasSym m) m.arity (clean_all ts)
    clean_all_ground none = tt
    clean_all_ground (more t ts) = (clean_ground t, clean_all_ground ts)

  fitted_same : (f : Sym) (k : HasSym m f ⊎ (HasSym m f → ⊥)) (b : Bool) (ts : Trees) → HasSym m f → b ≡ true → fitted f k b ts ≡ app f ts
  fitted_same f (inl h) true ts p e = refl
  fitted_same f (inl h) false ts p e = absurd cc
  fitted_same f (inr n) b ts p e = absurd (n p)

  same_count : (ts us : Trees) (f : Sym) → count us ≡ count ts → count ts ≡ m.arity f → (count us == m.arity f) ≡ true
  same_count ts us f e q = grind (arith, nat_tests)

  -- a ground term is clean
  mutual
    pub clean-ground : (t : Tree) → IsGroundOf m t → clean t ≡ t
    clean-ground (var x) g = absurd g
    clean-ground (app f ts) g = fitted_same f (known f) (count ts == m.arity f) (clean_all ts) g.0 (same_count ts ts f refl g.1) ∙ ap (app f) (clean_all-ground ts g.2)

    clean_all-ground : (ts : Trees) → AreGround (HasSym m) m.arity ts → clean_all ts ≡ ts
    clean_all-ground none g = refl
    clean_all-ground (more t ts) g = ap₂ more (clean-ground t g.0) (clean_all-ground ts g.1)

  -- an instance is cleaned by cleaning the substitution
  mutual
    pub clean-apply : (σ : ℕ → Tree) (t : Tree) → IsTerm (HasSym m) m.arity t → clean (apply σ t) ≡ apply (λ x. clean (σ x)) t
    clean-apply σ (var x) g = refl
    clean-apply σ (app f ts) g = fitted_same f (known f) (count (apply_all σ ts) == m.arity f) (clean_all (apply_all σ ts)) g.0 (same_count ts (apply_all σ ts) f (count-apply_all σ ts) g.1) ∙ ap (app f) (clean_all-apply σ ts g.2)

    clean_all-apply : (σ : ℕ → Tree) (ts : Trees) → AreOver (HasSym m) m.arity (λ _. Unit {0}) ts → clean_all (apply_all σ ts) ≡ apply_all (λ x. clean (σ x)) ts
    clean_all-apply σ none g = refl
    clean_all-apply σ (more t ts) g = ap₂ more (clean-apply σ t g.0) (clean_all-apply σ ts g.1)
