-- How a walk over a pattern and a term extends a list of pairs.
use Rattle.std.specs.Prelude.{ℕ, ◌≡◌, ◌++◌, ◌∷◌, [], Some, None, List, Bool, true, false, ◌⊎◌}
use Rattle.uc_term.specs.Tree.{Tree, apply}
use Rattle.uc_term.specs.Subst.{found, domain, Agrees}
use Rattle.uc_term.specs.Variables.{variables, firsts_after}

-- the substitutions with the new pairs are those with the old ones that make the pattern the term, and the pairs added
-- are those of the pattern's further variables
pub record Extends (pattern term : Tree) (old new : List (ℕ × Tree)) : Type 0 where
  pub only : (σ : ℕ → Tree) → Agrees σ new → Agrees σ old × (apply σ pattern ≡ term)
  pub each : (σ : ℕ → Tree) → Agrees σ old → apply σ pattern ≡ term → Agrees σ new
  pub pairs_are : domain new ≡ domain old ++ firsts_after (domain old) (variables pattern)

-- no substitution with the old pairs makes the pattern the term
abbrev pub HasNoExtension : Tree → Tree → List (ℕ × Tree) → Type 0
HasNoExtension pattern term old = (σ : ℕ → Tree) → Agrees σ old → apply σ pattern ≡ term → ⊥

abbrev pub IsExtended : Tree → Tree → List (ℕ × Tree) → List (ℕ × Tree) → Bool → Type 0
IsExtended pattern term old new true = Extends pattern term old new
IsExtended pattern term old new false = HasNoExtension pattern term old

-- the variable has this term, which is new where it had none; or it has another one
abbrev pub IsBound : ℕ → Tree → List (ℕ × Tree) → List (ℕ × Tree) → Bool → Type 0
IsBound x t old new true = ((found old x ≡ Some t) × (new ≡ old)) ⊎ ((found old x ≡ None) × (new ≡ old ++ (x, t) ∷ []))
IsBound x t old new false = (u : Tree) × (found old x ≡ Some u) × (u ≡ t → ⊥)
