-- The steps by which a search evaluates an instance of a clause.
use Rattle.std.specs.Prelude.{ℕ, ◌≡◌, ◌+◌, ◌/◌, ◌%◌, ◌^◌, ◌<◌, ◌≤◌, nat_lt, List, [], ◌∷◌, length, take, drop, slice_get, Option, Some, None, if◌then◌else◌}
use Rattle.std.specs.List.{AllByRecursion}
use Rattle.uc_table.specs.declared.search_steps.Step.{Step}
use Rattle.uc_table.specs.declared.search_steps.Step.TheVariants.{Variable, Apply, Foreign}
use Rattle.uc_table.specs.declared.search_steps.Taken.{Taken}
use Rattle.uc_table.specs.declared.search_steps.Taken.TheVariants as taken
use Rattle.uc_table.specs.declared.search_steps.Outcome.{Outcome}
use Rattle.uc_table.specs.declared.search_steps.Outcome.TheVariants as outcome
use Rattle.uc_table.specs.Algebras.{place_of}
use Rattle.uc_table.specs.Tables.{AreValues, MOST_CELLS}

-- what steps come to: a stack, the top first; the cell at which they stop; or nothing
pub data Ran : Type 0 where
  stops : List ℕ → Ran
  waits : ℕ → Ran
  breaks : Ran

abbrev pub go_on : Ran → (List ℕ → Ran) → Ran
go_on (stops stack) next = next stack
go_on (waits cell) next = waits cell
go_on breaks next = breaks

-- the value of this cell is pushed, if it has one
abbrev pub read : Option ℕ → ℕ → List ℕ → Ran
read (Some v) cell stack = stops (v ∷ stack)
read None cell stack = waits cell

module _ (size assignment : ℕ) (prefix : List ℕ) where
  abbrev pub take_step : Step → List ℕ → Ran
  take_step (Variable unit) stack = stops ((assignment / unit) % size ∷ stack)
  take_step (Apply first n) stack = if nat_lt (length stack) n then breaks else read (slice_get prefix (first + place_of size (take n stack))) (first + place_of size (take n stack)) (drop n stack)
  take_step Foreign stack = breaks

  abbrev pub run : List Step → List ℕ → Ran
  run [] stack = stops stack
  run (s ∷ ss) stack = go_on (take_step s stack) (run ss)

-- the step has a unit, or reads one of the most cells that there are
abbrev pub IsStep : ℕ → Step → Type 0
IsStep size (Variable unit) = 0 < unit
IsStep size (Apply first n) = first + size ^ n ≤ MOST_CELLS
IsStep size Foreign = Unit {0}

abbrev pub AreSteps : ℕ → List Step → Type 0
AreSteps size ss = AllByRecursion (IsStep size) ss

-- what a step on a stack, which begins at a place of a list, comes to in a list
abbrev pub IsTaken : ℕ → ℕ → List ℕ → Ran → Taken → Type 0
IsTaken size top list ran (taken.Top next) = record { is : ran ≡ stops (drop next list); room : top ≤ next + 1; within : next ≤ length list; live : AreValues size (drop next list) }
IsTaken size top list ran (taken.Waits cell) = (ran ≡ waits cell) × (cell < MOST_CELLS)
IsTaken size top list ran taken.Never = ran ≡ breaks

-- two values are left, a cell has no value yet, or neither
abbrev pub IsOutcome : Ran → Outcome → Type 0
IsOutcome ran (outcome.Sides left right) = ran ≡ stops (right ∷ left ∷ [])
IsOutcome ran (outcome.Waits cell) = (ran ≡ waits cell) × (cell < MOST_CELLS)
IsOutcome ran outcome.Never = ((left right : ℕ) → ran ≡ stops (left ∷ right ∷ []) → ⊥) × ((cell : ℕ) → ran ≡ waits cell → ⊥)
