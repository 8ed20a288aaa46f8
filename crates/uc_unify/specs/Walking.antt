-- Unifiers that one walk over both terms finds.
use Rattle.std.specs.Prelude.{ℕ, ◌≡◌, ◌<◌, ◌≤◌, List, length, drop, Some}
use Rattle.uc_term.specs.declared.node.Node.{Node}
use Rattle.uc_term.specs.Tree.{Tree, Trees, count, apply, apply_all}
use Rattle.uc_term.specs.Flat.{tree_of, trees_of}
use Rattle.uc_term.specs.Subst.{found}
use Rattle.uc_unify.specs.Unifiers.{HasNoUnifier}
use Rattle.uc_unify.specs.declared.walking.Walked.{Walked}
use Rattle.uc_unify.specs.declared.walking.Walked.TheVariants.{Apart, Reduced, Unclear}
use Rattle.uc_unify.specs.declared.walking.Step.{Step}
use Rattle.uc_unify.specs.declared.walking.Step.TheVariants.{Stop, To}

-- σ gives each variable that has a pair the instance of its term
abbrev pub Meets : (ℕ → Tree) → List (ℕ × Tree) → Type 0
Meets σ pairs = (x : ℕ) (t : Tree) → found pairs x ≡ Some t → σ x ≡ apply σ t

-- the substitutions that unify the two are those that meet the pairs and unify what is left of the two, of which there are as
-- many terms on each side
pub record AreReduced (s t : Tree) (ss ts : Trees) (pairs : List (ℕ × Tree)) : Type 0 where
  pub counts : count ss ≡ count ts
  pub only : (σ : ℕ → Tree) → Meets σ pairs → apply_all σ ss ≡ apply_all σ ts → apply σ s ≡ apply σ t
  pub each : (σ : ℕ → Tree) → apply σ s ≡ apply σ t → Meets σ pairs × (apply_all σ ss ≡ apply_all σ ts)

-- the same at places of the two flat lists
abbrev pub ReducedFrom : List Node → List Node → ℕ → ℕ → List (ℕ × Tree) → Type 0
ReducedFrom s t p q pairs = AreReduced (tree_of s) (tree_of t) (trees_of (drop p s)) (trees_of (drop q t)) pairs

-- the substitutions that unify the two are those that meet the pairs
pub record IsReducedTo (s t : Tree) (pairs : List (ℕ × Tree)) : Type 0 where
  pub only : (σ : ℕ → Tree) → Meets σ pairs → apply σ s ≡ apply σ t
  pub each : (σ : ℕ → Tree) → apply σ s ≡ apply σ t → Meets σ pairs

-- what a walk comes to
abbrev pub IsWalked : Tree → Tree → List (ℕ × Tree) → Walked → Type 0
IsWalked s t pairs Apart = HasNoUnifier s t
IsWalked s t pairs Reduced = IsReducedTo s t pairs
IsWalked s t pairs Unclear = Unit {0}

-- what a step from a place comes to
abbrev pub IsStep : List Node → List Node → ℕ → List (ℕ × Tree) → Step → Type 0
IsStep s t p pairs (Stop walked) = IsWalked (tree_of s) (tree_of t) pairs walked
IsStep s t p pairs (To i j) = ReducedFrom s t i j pairs × (p < i) × (i ≤ length s)
