-- Terms that match each other are equal up to a renaming.
use Rattle.std.proofs.Common.{◌≡◌, ℕ, refl, sym, ap, subst, ◌∙◌}
use Rattle.uc_term.specs.Tree.{Tree, var, app, apply}
use Rattle.uc_term.proofs.Terms.{apply-apply, apply-var}
use Rattle.uc_term.proofs.Agree.{agree_at, same_if}
use Rattle.uc_check.specs.Variants.{renamed, AreVariants}

number : Tree → ℕ
number (var x) = x
number (app f ts) = 0

-- a substitution that another one undoes gives variables for variables
module _ (σ τ : ℕ → Tree) where
  abbrev ρ : ℕ → ℕ
  ρ x = number (σ x)

  is_var : (x : ℕ) (t : Tree) → apply τ t ≡ var x → var (number t) ≡ t
  unfolding number
  is_var x (var y) e = refl
  is_var x (app f ts) e = absurd cc

  undone : (t u : Tree) → apply σ t ≡ u → apply τ u ≡ t → renamed ρ t ≡ u
  undone t u forth back = same_if (λ x. var (ρ x)) σ t (λ x o. is_var x (σ x) (agree_at (λ y. apply τ (σ y)) var x t o both)) ∙ forth
    where
      both : apply (λ y. apply τ (σ y)) t ≡ apply var t
      both = sym (apply-apply τ σ t) ∙ ap (apply τ) forth ∙ back ∙ sym (apply-var t)

pub variants_of : (l r l' r' : Tree) (σ τ : ℕ → Tree) → apply σ l ≡ l' → apply σ r ≡ r' → apply τ l' ≡ l → apply τ r' ≡ r → AreVariants l r l' r'
variants_of l r l' r' σ τ a b c d = record {
  forth = ρ σ τ;
  back = ρ τ σ;
  left_forth = undone σ τ l l' a c;
  right_forth = undone σ τ r r' b d;
  left_back = undone τ σ l' l c a;
  right_back = undone τ σ r' r d b;
}

pub moved : (l r l' r' m s m' s' : Tree) → l ≡ m → r ≡ s → l' ≡ m' → r' ≡ s' → AreVariants l r l' r' → AreVariants m s m' s'
moved l r l' r' m s m' s' a b c d v = subst (λ (x : Tree). AreVariants m s m' x) d (subst (λ (x : Tree). AreVariants m s x r') c (subst (λ (x : Tree). AreVariants m x l' r') b (subst (λ (x : Tree). AreVariants x r l' r') a v)))
