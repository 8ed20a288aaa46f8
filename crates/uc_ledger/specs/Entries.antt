-- A ledger as contracts see it, and what a call may do to it.
use Rattle.std.specs.Prelude.{◌≡◌, ◌≢◌, ℕ, List, Option, Some}
use Rattle.std.specs.List.{slice_get}
use Rattle.std.proofs.Math.ListN.{set}
use Rattle.uc_ledger.specs.declared.ledger.State.{State}

-- the states of the pairs, by number, and how many more the ledger has room for
pub record Entries : Type 0 where
  pub states : List State
  pub spare : ℕ

-- the pair of this number goes from one state to another, and nothing else changes
pub record Turns (number : ℕ) (from to : State) (old new : Entries) : Type 0 where
  pub was : slice_get old.states number ≡ Some from
  pub becomes : new.states ≡ set old.states number to
  pub room : new.spare ≡ old.spare

-- the pair of this number isn't in the wanted state but as found, and nothing changes
pub record StaysAs (found : Option State) (number : ℕ) (wanted : State) (old new : Entries) : Type 0 where
  pub is : found ≡ slice_get old.states number
  pub other : found ≢ Some wanted
  pub same : new ≡ old
