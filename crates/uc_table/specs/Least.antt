-- Models of a problem by their sizes.
use Rattle.std.specs.Prelude.{ℕ, ◌<◌, ◌≤◌, List}
use Rattle.uc_term.specs.declared.node.Sym.{Sym}
use Rattle.uc_term.specs.Table.{Table as SymbolTable}
use Rattle.uc_clause.specs.declared.clause.Sourced.{Sourced}
use Rattle.uc_table.specs.declared.table.Table.{Table}
use Rattle.uc_table.specs.declared.answers.Searched.{Searched}
use Rattle.uc_table.specs.declared.answers.Searched.TheVariants.{Found, Absent, Spent, Cells, Assignments}
use Rattle.uc_table.specs.Tables.{IsTableOf}
use Rattle.uc_table.specs.Models.{IsModel}

module _ (symbols : SymbolTable) (signature : List Sym) (clauses : List Sourced) (size : ℕ) where
  -- the table has up to so many values and is a model of the clauses, and no table with fewer values is one
  pub record IsLeastModel (table : Table) : Type 0 where
    pub is_table : IsTableOf symbols signature table
    pub within : table.size ≤ size
    pub is_model : IsModel table clauses
    pub least : (other : Table) → IsTableOf symbols signature other → other.size < table.size → IsModel other clauses → ⊥

  -- no table with up to so many values is a model of the clauses
  abbrev pub HasNone : Type 0
  HasNone = (table : Table) → IsTableOf symbols signature table → table.size ≤ size → IsModel table clauses → ⊥

  -- what the answer of a search up to this size shows of the models
  abbrev pub Shows : Searched → Type 0
  Shows (Found table) = IsLeastModel table
  Shows Absent = HasNone
  Shows (Spent visited) = Unit {0}
  Shows (Cells m) = Unit {0}
  Shows (Assignments m) = Unit {0}
