-- The entries of instances that wait, and the chain of those of a cell.
use Rattle.std.specs.Prelude.{ℕ, ◌≡◌, ◌+◌, ◌<◌, ◌≤◌, List, [], ◌∷◌, ◌++◌, length, take, slice_get, Some}
use Rattle.uc_table.specs.declared.search_waiting.Entry.{Entry}
use Rattle.uc_table.specs.declared.search_waiting.Waiting.{Waiting}
use Rattle.uc_table.specs.Tables.{MOST_CELLS}

-- one more than the place of the last of the entries that waits at the cell, or 0
pub record IsTop (entries : List Entry) (n cell : ℕ) : Type 0 where
  pub within : n ≤ length entries
  pub waits : (i : ℕ) (e : Entry) → n ≡ i + 1 → slice_get entries i ≡ Some e → e.cell ≡ cell
  pub last : (i : ℕ) (e : Entry) → n ≤ i → slice_get entries i ≡ Some e → e.cell ≡ cell → ⊥

-- each entry names the entry of its cell before it, each cell its last entry
pub record IsWell (w : Waiting) : Type 0 where
  pub as_many : length w.heads.items ≡ MOST_CELLS
  pub heads : (c n : ℕ) → slice_get w.heads.items c ≡ Some n → IsTop w.entries.items n c
  pub linked : (i : ℕ) (e : Entry) → slice_get w.entries.items i ≡ Some e → IsTop (take i w.entries.items) e.below e.cell
  pub cells : (i : ℕ) (e : Entry) → slice_get w.entries.items i ≡ Some e → e.cell < MOST_CELLS

-- an entry of this instance at this cell is new
pub record HasPushed (form assignment cell : ℕ) (old new : List Entry) : Type 0 where
  pub below : ℕ
  pub new_is : new ≡ old ++ record { form = form; assignment = assignment; cell = cell; below = below } ∷ []
