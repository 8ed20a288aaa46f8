-- What the search of one size comes to.
use Rattle.std.specs.Prelude.{ℕ, ◌≡◌, ◌<◌, ◌≤◌, List, [], ◌∷◌, ◌++◌, length, slice_get, Some}
use Rattle.uc_term.specs.declared.node.Sym.{Sym}
use Rattle.uc_term.specs.Table.{Table as SymbolTable}
use Rattle.uc_clause.specs.declared.clause.Sourced.{Sourced}
use Rattle.uc_table.specs.declared.table.Table.{Table}
use Rattle.uc_table.specs.declared.searching.OfSize.{OfSize}
use Rattle.uc_table.specs.declared.searching.OfSize.TheVariants as of_size
use Rattle.uc_table.specs.Tables.{MOST_CELLS}
use Rattle.uc_table.specs.Checks.{HasTooMany}
use Rattle.uc_order.specs.Members.{In}
use Rattle.uc_table.specs.Searching.{Holds, cells_at, IsOpenAt, IsVisitedAt, AreAllAt, AreFirstAt, IsWithin}

module _ (symbols : SymbolTable) (signature : List Sym) (clauses : List Sourced) (m budget : ℕ) where
  pub record FindsAt (table : Table) : Type 0 where
    pub within : IsWithin symbols signature clauses m
    pub ps : List (List ℕ)
    pub cells : List ℕ
    pub all : AreAllAt symbols signature clauses m (ps ++ cells ∷ [])
    pub open_is : IsOpenAt symbols signature clauses m cells
    pub few : length (ps ++ cells ∷ []) ≤ budget
    pub holds : Holds symbols signature m cells table

  pub record NoneAt (count : ℕ) : Type 0 where
    pub within : IsWithin symbols signature clauses m
    pub ps : List (List ℕ)
    pub all : AreAllAt symbols signature clauses m ps
    pub none : (t : List ℕ) → IsOpenAt symbols signature clauses m t → ⊥
    pub count_is : count ≡ length ps
    pub few : count ≤ budget

  pub record SpentAt : Type 0 where
    pub within : IsWithin symbols signature clauses m
    pub ps : List (List ℕ)
    pub first : AreFirstAt symbols signature clauses m ps
    pub count_is : length ps ≡ budget
    pub p : List ℕ
    pub due : IsVisitedAt symbols signature clauses m p
    pub further : In ps p → ⊥

  pub record TooManyAt : Type 0 where
    pub cells : cells_at symbols signature clauses m ≤ MOST_CELLS
    pub number : ℕ
    pub clause : Sourced
    pub clause_is : slice_get clauses number ≡ Some clause
    pub many : HasTooMany m clause

  abbrev pub IsOfSize : OfSize → Type 0
  IsOfSize (of_size.Found table) = FindsAt table
  IsOfSize (of_size.None count) = NoneAt count
  IsOfSize of_size.Spent = SpentAt
  IsOfSize of_size.Cells = MOST_CELLS < cells_at symbols signature clauses m
  IsOfSize of_size.Assignments = TooManyAt
