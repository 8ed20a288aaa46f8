-- What a fact comes to with one other fact that lives, and with all of them, one by one.
use Rattle.std.specs.Prelude.{ℕ, ◌≡◌, ◌≢◌, ◌<◌, ◌≤◌, ◌++◌, List, [], ◌∷◌, Option, Some, None}
use Rattle.uc_term.specs.declared.equation.Equation.{Equation}
use Rattle.uc_order.specs.Laws.{Meaning}
use Rattle.uc_fact.specs.Live.{Live}
use Rattle.uc_pair.specs.declared.formed.Formed.{Formed}
use Rattle.uc_pair.specs.Listing.{AreOverlaps}
use Rattle.uc_machine.specs.Results.{Reduces}

-- what is so stands behind the old list
pub record Adds {A : Type 0} (P : List A → Type 0) (old new : List A) : Type 0 where
  pub more : List A
  pub new_is : new ≡ old ++ more
  pub holds : P more

module _ (m : Meaning) (i : ℕ) (f : Equation) where
  -- it is another fact, and reduces f
  pub record IsReducedByIt (j : Live) : Type 0 where
    pub other : j.number ≢ i
    pub reduces : Reduces m j.equation f

  -- the first of the facts that is so
  pub data FirstReducer : List Live → Option ℕ → Type 0 where
    none_left : FirstReducer [] None
    it_reduces : {j : Live} {js : List Live} → IsReducedByIt j → FirstReducer (j ∷ js) (Some j.number)
    later_one : {j : Live} {js : List Live} {found : Option ℕ} → (IsReducedByIt j → ⊥) → FirstReducer js found → FirstReducer (j ∷ js) found

  -- the kill of one fact, if it is one
  pub data KillsOne (j : Live) : List ℕ → Type 0 where
    is_killed : j.number < i → Reduces m f j.equation → KillsOne j (j.number ∷ [])
    is_spared : j.number < i → (Reduces m f j.equation → ⊥) → KillsOne j []
    not_earlier : i ≤ j.number → KillsOne j []

  -- the overlaps with one earlier fact, the other one outside first
  pub data MeetsOne (j : Live) : List Formed → Type 0 where
    is_met : {inside round : List Formed} → j.number < i → AreOverlaps m.greater j.number j.equation i f inside → AreOverlaps m.greater i f j.number j.equation round → MeetsOne j (inside ++ round)
    no_earlier : i ≤ j.number → MeetsOne j []
