-- What a most general unifier is.
use Rattle.std.specs.Prelude.{ℕ, ◌≡◌, ◌<◌, ◌≤◌, List}
use Rattle.uc_term.specs.Tree.{Tree, apply, nodes}
use Rattle.uc_term.specs.Subst.{image}
use Rattle.uc_unify.specs.declared.unification.Unified.{Unified}
use Rattle.uc_unify.specs.declared.unification.Unified.TheVariants.{Unifier, Apart, TooLarge}
use Rattle.uc_unify.specs.declared.unification.UnifiedIn.{UnifiedIn}
use Rattle.uc_unify.specs.declared.unification.UnifiedIn.TheVariants as InLent

-- σ unifies the two, and every unifier is itself after σ
pub record IsMostGeneral (s t : Tree) (σ : ℕ → Tree) : Type 0 where
  pub unifies : apply σ s ≡ apply σ t
  pub general : (τ : ℕ → Tree) → apply τ s ≡ apply τ t → (x : ℕ) → apply τ (σ x) ≡ τ x

-- no substitution unifies the two
abbrev pub HasNoUnifier : Tree → Tree → Type 0
HasNoUnifier s t = (τ : ℕ → Tree) → apply τ s ≡ apply τ t → ⊥

-- the two have a most general unifier, and their common instance is too large for a term
pub record IsTooLarge (s t : Tree) : Type 0 where
  pub σ : ℕ → Tree
  pub most_general : IsMostGeneral s t σ
  pub large : 4096 < nodes (apply σ s)

-- a most general unifier whose common instance is a term
pub record IsUnifier (s t : Tree) (pairs : List (ℕ × Tree)) : Type 0 where
  pub most_general : IsMostGeneral s t (image pairs)
  pub small : nodes (apply (image pairs) s) ≤ 4096

-- what the two come to
abbrev pub IsUnified : Tree → Tree → Unified → Type 0
IsUnified s t (Unifier pairs) = IsUnifier s t pairs
IsUnified s t Apart = HasNoUnifier s t
IsUnified s t TooLarge = IsTooLarge s t

-- the same where the substitution is lent
abbrev pub IsUnifiedIn : Tree → Tree → List (ℕ × Tree) → UnifiedIn → Type 0
IsUnifiedIn s t pairs InLent.Unifier = IsUnifier s t pairs
IsUnifiedIn s t pairs InLent.Apart = HasNoUnifier s t
IsUnifiedIn s t pairs InLent.TooLarge = IsTooLarge s t
