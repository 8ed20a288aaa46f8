-- The goals as the code holds them.
use Rattle.std.specs.Prelude.{◌≡◌, ℕ, ◌<◌, ◌^◌, List, Bool, false, map, length, slice_index_or}
use Rattle.uc_machine.specs.declared.state.Stage.{Stage}
use Rattle.uc_rows.specs.declared.goals.GoalRow.{GoalRow}
use Rattle.uc_rows.specs.declared.goals.Goals.TheInside.{Inside}
use Rattle.uc_machine.specs.State.{Target, is_due, is_continued}

abbrev pub target_of : GoalRow → Target
target_of r = record { left = r.left; right = r.right; stage = r.stage }

abbrev pub targets_of : List GoalRow → List Target
targets_of rows = map target_of rows

-- no goal of a number below n is in such a state
abbrev pub NoneBelow : (Stage → Bool) → ℕ → List GoalRow → Type 0
NoneBelow p n rows = (k : ℕ) (d : GoalRow) → k < n → k < length rows → p (slice_index_or rows k d).stage ≡ false

-- where the search for a goal that is Due, and for one that is Continued, goes on
pub record AreGoals (g : Inside) : Type 0 where
  pub due : NoneBelow is_due g.due_from g.rows.items
  pub continued : NoneBelow is_continued g.continued_from g.rows.items
  pub few : length g.rows.items < 2 ^ 31
