-- The tasks out as the code holds them.
use Rattle.std.specs.Prelude.{◌≡◌, ℕ, ◌<◌, ◌≤◌, List, Bool, true, false, cond, Some, length, map, take, remove, slice_index_or}
use Rattle.boxcar.specs.Table.{Shelves}
use Rattle.uc_shelf.specs.Fronts.{IsOf}
use Rattle.uc_shelf.specs.declared.entry.Entry.{Entry}
use Rattle.uc_machine.specs.declared.task.Job.{Job}
use Rattle.uc_machine.specs.declared.task.Job.TheVariants.{Goal, More, Meet, Join}
use Rattle.uc_rows.specs.declared.tasks.TaskRow.{TaskRow}
use Rattle.uc_machine.specs.State.{Out, out_at, without}

abbrev pub out_of : TaskRow → Out
out_of t = record { ticket = t.ticket; worker = t.worker; job = t.job; front = length t.front.entries }

-- the job is about a pair
abbrev pub is_join : Job → Bool
is_join (Goal g l r) = false
is_join (More g l r) = false
is_join (Meet i) = false
is_join (Join p o) = true

-- the front of a task out is a prefix of the entries, on the same shelf
pub record HasFront (shelf : Shelves) (entries : List Entry) (t : TaskRow) : Type 0 where
  pub of : IsOf shelf t.front
  pub within : length t.front.entries ≤ length entries
  pub is : t.front.entries ≡ take (length t.front.entries) entries

abbrev pub unit_if_join : Job → ℕ
unit_if_join j = cond (is_join j) 1 0

-- the task at a place is this one, and is found by its ticket
pub record StandsAt (tasks : List TaskRow) (at : ℕ) (t : Out) : Type 0 where
  pub inside : at < length tasks
  pub is : (d : TaskRow) → out_of (slice_index_or tasks at d) ≡ t
  pub found : out_at t.ticket (map out_of tasks) ≡ Some t
  pub others : without t.ticket (map out_of tasks) ≡ map out_of (remove tasks at)
