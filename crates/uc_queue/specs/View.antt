-- The fields of a queue: what contracts see of them, and what is always true of them.
use Rattle.std.specs.Prelude.{ℕ, ◌-◌, ◌<◌, ◌≤◌, length, vec_capacity}
use Rattle.uc_queue.specs.declared.passive.Passive.TheInside.{Inside}
use Rattle.uc_queue.specs.Queue.{Queue, times, by_number}
use Rattle.uc_queue.specs.Trees.{AreRight}

abbrev pub queue_of : Inside → Queue
queue_of q = record { waiting = by_number q.entries.items; draws = q.draws; spare = length q.lightest.items - length q.entries.items }

pub record IsWell (q : Inside) : Type 0 where
  pub right : AreRight q.entries.items q.lightest.items q.earliest.items
  pub room : length q.lightest.items ≤ vec_capacity q.entries
  pub distinct : (n : ℕ) → times n q.entries.items ≤ 1
  pub few_draws : q.draws < 5
