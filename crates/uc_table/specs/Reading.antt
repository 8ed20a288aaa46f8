-- What a text reads as: a table of a signature, or the first line that departs.
use Rattle.std.specs.Prelude.{◌≡◌, ℕ, ◌+◌, ◌-◌, ◌==◌, ◌&&◌, not, nat_le, nat_lt, nat_eq, Bool, List, [], ◌∷◌, ◌++◌, length, drop, bytes_eq, Option, Some, None, Result, Ok, Err, if◌then◌else◌}
use Rattle.std.specs.List.{starts_with}
use Rattle.std.specs.Str.Parse.{digits_value}
use Rattle.uc_term.specs.declared.node.Sym.{Sym}
use Rattle.uc_term.specs.Table.{Table as SymbolTable}
use Rattle.uc_clause.specs.Bytes.{is_digit, is_digits}
use Rattle.uc_table.specs.declared.table.Table.{Table}
use Rattle.uc_table.specs.declared.fault.TableFault.{TableFault}
use Rattle.uc_table.specs.declared.fault.TableFault.TheVariants.{Version, TooManyCells, TooManyBytes, NoMemory}
use Rattle.uc_table.specs.Tables.{cell_count, MOST_CELLS}
use Rattle.uc_table.specs.Lines.{Cut, first_line, place_in, departs, Outcome, gets, fails, Rule, ◌>>=◌, gives, pick, exactly}
use Rattle.uc_table.specs.Printing.{table_words, table_line, size_words, end_line, symbol_line}

-- digits of another number than 1
abbrev pub is_other_version : List ℕ → Bool
is_other_version ds = is_digits ds && not (digits_value 10 ds == 1)

-- the fault of a first line that is another one
abbrev pub version_fault : ℕ → List ℕ → TableFault
version_fault n line = if starts_with nat_eq line table_words && is_other_version (drop (length table_words) line) then Version (place_in n (length table_words)) else departs n

abbrev pub version_of : ℕ → Option Cut → Outcome (Unit {0})
version_of n None = fails (departs n)
version_of n (Some c) = if bytes_eq c.line table_line then gets tt (n + 1) c.rest else fails (version_fault n c.line)

-- the first line; a number in place of its 1 is of another version
abbrev pub version_line : Rule (Unit {0})
version_line n text = version_of n (first_line text)

-- the number that a digit writes alone
abbrev pub digit_of : List ℕ → Option ℕ
digit_of (b ∷ []) = if is_digit b then Some (b - 48) else None
digit_of ds = None

-- a size is a number from 1 to 8
abbrev pub checked_size : Option ℕ → Option ℕ
checked_size (Some size) = if nat_le 1 size && nat_le size 8 then Some size else None
checked_size None = None

-- the size in a line
abbrev pub size_of : List ℕ → Option ℕ
size_of line = if starts_with nat_eq line size_words then checked_size (digit_of (drop (length size_words) line)) else None

-- the first two lines: the size
abbrev pub header_lines : Rule ℕ
header_lines = version_line >>= λ _. pick size_of

module _ (size : ℕ) where
  -- a digit that writes a value
  abbrev pub is_value : ℕ → Bool
  is_value b = is_digit b && nat_lt (b - 48) size

  abbrev pub with_value : ℕ → Option (List ℕ) → Option (List ℕ)
  with_value b (Some vs) = Some ((b - 48) ∷ vs)
  with_value b None = None

  -- the values in a line, with a space between any two
  abbrev pub values_of : List ℕ → Option (List ℕ)
  values_of [] = None
  values_of (b ∷ []) = if is_value b then Some ((b - 48) ∷ []) else None
  values_of (b ∷ c ∷ bs) = if is_value b && c == 32 then with_value b (values_of bs) else None

  -- as many as there have to be
  abbrev pub checked_count : ℕ → Option (List ℕ) → Option (List ℕ)
  checked_count count (Some vs) = if length vs == count then Some vs else None
  checked_count count None = None

  abbrev pub row_of : ℕ → List ℕ → Option (List ℕ)
  row_of count line = checked_count count (values_of line)

-- how many cells there are in these rows
abbrev pub cells_in : List (List ℕ) → ℕ
cells_in [] = 0
cells_in (row ∷ rows) = length row + cells_in rows

-- no line, but a fault at this one where there are too many cells
abbrev pub limited : ℕ → ℕ → Outcome (Unit {0}) → Outcome (Unit {0})
limited cells n (gets u m rest) = if nat_lt MOST_CELLS cells then fails (TooManyCells (place_in n 0)) else gets u m rest
limited cells n (fails fault) = fails fault

module _ (symbols : SymbolTable) (size : ℕ) where
  -- the line of a symbol, with which there are so many cells
  abbrev pub symbol_at : ℕ → Sym → Rule (Unit {0})
  symbol_at cells f n text = limited cells n (exactly (symbol_line symbols f) n text)

  -- the two lines of a symbol, behind so many cells of others
  abbrev pub row_at : ℕ → Sym → Rule (List ℕ)
  row_at cells f = symbol_at (cells + cell_count symbols size f) f >>= λ _. pick (row_of size (cell_count symbols size f))

  -- the rows of these symbols, behind others
  abbrev pub rows_after : List (List ℕ) → List Sym → Rule (List (List ℕ))
  rows_after rows [] = gives rows
  rows_after rows (f ∷ fs) = row_at (cells_in rows) f >>= λ row. rows_after (rows ++ row ∷ []) fs

module _ (symbols : SymbolTable) (signature : List Sym) where
  abbrev pub table_by : ℕ → List (List ℕ) → Table
  table_by size rows = record { size = size; symbols = signature; cells = rows }

  -- the lines of a table
  abbrev pub table_lines : Rule Table
  table_lines = do
    size ← header_lines
    rows ← rows_after symbols size [] signature
    _ ← exactly end_line
    gives (table_by size rows)

  -- behind the last line nothing stands
  abbrev pub ends : Outcome Table → Result Table TableFault
  ends (gets table n []) = Ok table
  ends (gets table n (b ∷ bs)) = Err (departs n)
  ends (fails fault) = Err fault

  -- what a text reads as
  abbrev pub table_of : List ℕ → Result Table TableFault
  table_of text = if nat_lt 16777216 (length text) then Err (TooManyBytes (place_in 1 0)) else ends (table_lines 1 text)

  -- the same, where want of memory is the one free answer
  abbrev pub IsReading : List ℕ → Result Table TableFault → Type 0
  IsReading text (Err NoMemory) = Unit {0}
  IsReading text answer = table_of text ≡ answer
