-- What the end of a task needs of the parts of a book.
use Rattle.std.specs.Prelude.{◌≡◌, ℕ, ◌+◌, ◌<◌, ◌≤◌, ◌^◌, Some, map, remove, vec_len, vec_capacity}
use Rattle.boxcar.specs.Table.{Shelves}
use Rattle.uc_book.specs.declared.parts.Parts.{Parts}
use Rattle.uc_machine.specs.State.{Opening, Out, out_at}
use Rattle.uc_machine.specs.Effects.{unit_of}
use Rattle.uc_rows.specs.Bounds.{AreSmall}
use Rattle.uc_rows.specs.TaskRows.{out_of, unit_if_join, StandsAt}
use Rattle.uc_book.specs.Parts.{Fit, HasRoom, IsSubjectOut}
use Rattle.uc_book.specs.Drawing.{IsSound}

-- the task is out
abbrev pub IsOut : Parts → Out → Type 0
IsOut p t = out_at t.ticket (map out_of p.tasks.items) ≡ Some t

-- each task out may end: what it is about is out, its unit is reserved, and there is room for its event and for its pair
pub record CanEnd (shelf : Shelves) (o : Opening) (p : Parts) : Type 0 where
  pub sound : IsSound o p
  pub fit : Fit shelf p
  pub room : HasRoom p
  pub subjects : (t : Out) → IsOut p t → IsSubjectOut p t.worker t.job
  pub units : (t : Out) → IsOut p t → unit_of t.job ≤ p.reserved

-- the task at a place, if it is there
abbrev pub AnyAt : Parts → ℕ → Type 0
AnyAt p at = (t : Out) × StandsAt p.tasks.items at t

-- the sums of a commit of the task stay in their types, and there is room for its event
pub record CanAccept (p : Parts) (t : Out) : Type 0 where
  pub units : unit_of t.job ≤ p.reserved
  pub counted : p.counted < 2 ^ 31
  pub small : AreSmall p.numbers.items
  pub room : vec_len p.history < vec_capacity p.history

-- the task can be put back: what it is about is out, the sums stay in their types, and there is room for its event and its pair
pub record CanReturn (p : Parts) (t : Out) : Type 0 where
  pub subject : IsSubjectOut p t.worker t.job
  pub spare : unit_if_join t.job ≤ p.pairs.spare
  pub units : unit_of t.job ≤ p.reserved
  pub small : AreSmall p.numbers.items
  pub room : vec_len p.history < vec_capacity p.history

-- the task at a place ended, by one event
pub record HasEnded (p : Parts) (at : ℕ) (q : Parts) : Type 0 where
  pub tasks : q.tasks.items ≡ remove p.tasks.items at
  pub next : q.next ≡ p.next
  pub verdict : q.verdict ≡ p.verdict
  pub history : vec_len q.history ≡ vec_len p.history + 1
  pub capacity : vec_capacity q.history ≡ vec_capacity p.history
