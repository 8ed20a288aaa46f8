-- What contracts see of the facts and of the pairs.
use Rattle.std.specs.Prelude.{ℕ, List}
use Rattle.uc_shelf.specs.Sights.{Sight}
use Rattle.uc_machine.specs.declared.state.Meeting.{Meeting}
use Rattle.uc_machine.specs.State.{Pair}

-- the front of the entries, the meeting of each fact, and how many more facts there is room for
pub record FactsView : Type 0 where
  pub front : Sight
  pub meetings : List Meeting
  pub room : ℕ

-- the pairs, by number; how many draws of the queue gave a pair, modulo 5; for how many more that wait again, and for how many
-- more that are new, there is room
pub record PairsView : Type 0 where
  pub pairs : List Pair
  pub draws : ℕ
  pub spare : ℕ
  pub room : ℕ
