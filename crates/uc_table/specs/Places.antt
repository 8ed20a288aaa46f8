-- Where reading stands in a text.
use Rattle.std.specs.Prelude.{◌≡◌, ℕ, ◌+◌, ◌<◌, ◌≤◌, List, drop, length, Some}
use Rattle.uc_table.specs.declared.lines.Cursor.{Cursor}
use Rattle.uc_table.specs.Lines.{first_line}

-- in the text or at its end, behind no more lines than bytes
pub record IsAt (bytes : List ℕ) (at : Cursor) : Type 0 where
  pub within : at.from ≤ length bytes
  pub few : at.number ≤ at.from + 1

-- this line stands here, and the next one begins there
pub record IsNext (bytes : List ℕ) (at : Cursor) (line : List ℕ) (next : Cursor) : Type 0 where
  pub is : first_line (drop at.from bytes) ≡ Some (record { line = line; rest = drop next.from bytes })
  pub number : next.number ≡ at.number + 1
  pub short : length line ≤ length bytes
  pub further : at.from < next.from
  pub stands : IsAt bytes next
