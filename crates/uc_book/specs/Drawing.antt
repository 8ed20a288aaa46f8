-- What a draw needs of the parts of a book, and what it finds in them.
use Rattle.std.specs.Prelude.{◌+◌, ◌<◌, ◌≤◌, ◌^◌, length, vec_len, vec_capacity}
use Rattle.boxcar.specs.Table.{Shelves}
use Rattle.uc_book.specs.declared.parts.Parts.{Parts}
use Rattle.uc_machine.specs.State.{Opening}
use Rattle.uc_rows.specs.Bounds.{AreSmall}
use Rattle.uc_book.specs.Parts.{Fit, HasRoom, RoomFor}

-- the counts stay far below the ends of their types
pub record IsSound (o : Opening) (p : Parts) : Type 0 where
  pub small : AreSmall p.numbers.items
  pub within : p.counted + p.reserved ≤ o.budget
  pub budget : o.budget ≤ 10000000
  pub next : p.next < 2 ^ 63

-- there is room for one task more, for its draw and its end and a close, and for the ends of the tasks out
pub record HasRoomToGive (p : Parts) : Type 0 where
  pub few : length p.tasks.items + 2 < 2 ^ 32
  pub tasks : vec_len p.tasks < vec_capacity p.tasks
  pub events : vec_len p.history + (length p.tasks.items + 3) ≤ vec_capacity p.history

-- a task may be given: there is room for it, for its draw and its end
pub record CanGive (shelf : Shelves) (o : Opening) (p : Parts) : Type 0 where
  pub sound : IsSound o p
  pub fit : Fit shelf p
  pub room : HasRoom p
  pub few : length p.tasks.items + 1 < 2 ^ 32
  pub room_tasks : vec_len p.tasks < vec_capacity p.tasks
  pub room_events : RoomFor 2 p
