-- When a table is one for a signature, and the limits on tables.
use Rattle.std.specs.Prelude.{ℕ, ◌≡◌, ◌+◌, ◌<◌, ◌≤◌, ◌^◌, List, [], ◌∷◌, length}
use Rattle.std.specs.List.{AllByRecursion}
use Rattle.uc_term.specs.declared.node.Sym.{Sym}
use Rattle.uc_term.specs.Table.{Table as SymbolTable, arity_of}
use Rattle.uc_table.specs.declared.table.Table.{Table}

-- each of them is a value of a table of this size
abbrev pub AreValues : ℕ → List ℕ → Type 0
AreValues size vs = AllByRecursion (λ v. v < size) vs

-- so many values, each below the size
pub record IsRow (size count : ℕ) (row : List ℕ) : Type 0 where
  pub as_many : length row ≡ count
  pub values : AreValues size row

module _ (symbols : SymbolTable) (size : ℕ) where
  -- how many cells a symbol has: one for each list of its arguments
  abbrev pub cell_count : Sym → ℕ
  cell_count f = size ^ arity_of symbols f

  -- how many cells these symbols have together
  abbrev pub cells_for : List Sym → ℕ
  cells_for [] = 0
  cells_for (f ∷ fs) = cell_count f + cells_for fs

  -- the symbols have these cells, in order
  abbrev pub AreRows : List Sym → List (List ℕ) → Type 0
  AreRows [] [] = Unit {0}
  AreRows (f ∷ fs) (row ∷ rows) = IsRow size (cell_count f) row × AreRows fs rows
  AreRows fs rows = ⊥

-- The table has a size from 1 to 8, the symbols of the signature, and for each of them a value below the size for each list of
-- arguments.
pub record IsTableOf (symbols : SymbolTable) (signature : List Sym) (table : Table) : Type 0 where
  pub some : 1 ≤ table.size
  pub most : table.size ≤ 8
  pub symbols_are : table.symbols ≡ signature
  pub rows : AreRows symbols table.size signature table.cells

-- the most cells of a table that is read or searched for
abbrev pub MOST_CELLS : ℕ
MOST_CELLS = 65536

-- the most assignments of a clause
abbrev pub MOST_ASSIGNMENTS : ℕ
MOST_ASSIGNMENTS = 16777216
