-- How the steps of a chain name its parents.
use Rattle.std.specs.Prelude.{ℕ, ◌≡◌, ◌+◌, ◌⊎◌, true, false, List, take, slice_get, Some}
use Rattle.uc_term.specs.Variables.{is_among}

-- the step names one of the parents so far, or the next one, and this is how many are named with it
abbrev pub NamesParent : List ℕ → ℕ → ℕ → ℕ → Type 0
NamesParent parents named by more =
    ((is_among by (take named parents) ≡ true) × (more ≡ named))
    ⊎ ((is_among by (take named parents) ≡ false) × (slice_get parents named ≡ Some by) × (more ≡ named + 1))

-- it names neither
abbrev pub NamesNoParent : List ℕ → ℕ → ℕ → Type 0
NamesNoParent parents named by = (is_among by (take named parents) ≡ false) × (slice_get parents named ≡ Some by → ⊥)
