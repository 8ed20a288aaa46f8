-- What a search for a model visits, size by size, and what it comes to.
use Rattle.std.specs.Prelude.{ℕ, ◌≡◌, ◌+◌, ◌<◌, ◌≤◌, List, [], ◌∷◌, ◌++◌, length, slice_get, Some}
use Rattle.std.specs.List.{concat}
use Rattle.uc_term.specs.declared.node.Sym.{Sym}
use Rattle.uc_term.specs.Table.{Table as SymbolTable}
use Rattle.uc_clause.specs.declared.clause.Sourced.{Sourced}
use Rattle.uc_order.specs.Members.{In}
use Rattle.uc_table.specs.declared.table.Table.{Table}
use Rattle.uc_table.specs.declared.answers.Searched.{Searched}
use Rattle.uc_table.specs.declared.answers.Searched.TheVariants.{Found, Absent, Spent, Cells, Assignments}
use Rattle.uc_table.specs.Tables.{cells_for, AreRows, MOST_CELLS}
use Rattle.uc_table.specs.Checks.{AreFewEnough, HasTooMany}
use Rattle.uc_table.specs.SearchCells.{IsRefuted}
use Rattle.uc_table.specs.SearchPrefixes.{IsOpen, IsVisited, AreFirst, AreAll}

-- the table has these cells in one row
pub record Holds (symbols : SymbolTable) (signature : List Sym) (size : ℕ) (cells : List ℕ) (table : Table) : Type 0 where
  pub size_is : table.size ≡ size
  pub symbols_are : table.symbols ≡ signature
  pub rows : AreRows symbols size signature table.cells
  pub cells_are : concat table.cells ≡ cells

module _ (symbols : SymbolTable) (signature : List Sym) (clauses : List Sourced) where
  abbrev pub cells_at : ℕ → ℕ
  cells_at m = cells_for symbols m signature

  -- a whole table of this size that isn't refuted
  abbrev pub IsOpenAt : ℕ → List ℕ → Type 0
  IsOpenAt m = IsOpen m (cells_at m) (IsRefuted symbols signature clauses m)

  abbrev pub IsVisitedAt : ℕ → List ℕ → Type 0
  IsVisitedAt m = IsVisited m (cells_at m) (IsRefuted symbols signature clauses m)

  -- the visited prefixes of this size
  abbrev pub AreAllAt : ℕ → List (List ℕ) → Type 0
  AreAllAt m = AreAll m (cells_at m) (IsRefuted symbols signature clauses m)

  -- the first visited prefixes of this size
  abbrev pub AreFirstAt : ℕ → List (List ℕ) → Type 0
  AreFirstAt m = AreFirst m (cells_at m) (IsRefuted symbols signature clauses m)

  -- the size passes neither limit
  pub record IsWithin (m : ℕ) : Type 0 where
    pub cells : cells_at m ≤ MOST_CELLS
    pub assignments : AreFewEnough m clauses

  module _ (budget : ℕ) where
    -- The size is reached when so many prefixes are visited: size 1 at the start, and a later one where the size before it is reached,
    -- passes no limit and has no model, and the budget isn't exceeded.
    pub data IsReached : ℕ → ℕ → Type 0 where
      is_first : IsReached 1 0
      is_next : {m count : ℕ} {ps : List (List ℕ)} → IsReached m count → IsWithin m → AreAllAt m ps → ((t : List ℕ) → IsOpenAt m t → ⊥) → count + length ps ≤ budget → IsReached (m + 1) (count + length ps)

    -- what a search up to this size comes to
    pub data Searches (size : ℕ) : Searched → Type 0 where
      is_found : {m count : ℕ} (ps : List (List ℕ)) {t : List ℕ} {table : Table} → IsReached m count → m ≤ size → IsWithin m → AreAllAt m (ps ++ t ∷ []) → IsOpenAt m t → count + length (ps ++ t ∷ []) ≤ budget → Holds symbols signature m t table → Searches size (Found table)
      has_too_many_cells : {m count : ℕ} → IsReached m count → m ≤ size → MOST_CELLS < cells_at m → Searches size (Cells m)
      has_too_many_assignments : {m count : ℕ} (k : ℕ) {s : Sourced} → IsReached m count → m ≤ size → cells_at m ≤ MOST_CELLS → slice_get clauses k ≡ Some s → HasTooMany m s → Searches size (Assignments m)
      is_spent : {m count : ℕ} {ps : List (List ℕ)} {p : List ℕ} → IsReached m count → m ≤ size → IsWithin m → AreFirstAt m ps → count + length ps ≡ budget → IsVisitedAt m p → (In ps p → ⊥) → Searches size (Spent budget)
      is_absent : {count : ℕ} → IsReached (size + 1) count → Searches size Absent
