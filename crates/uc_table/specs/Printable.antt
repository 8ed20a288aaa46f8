-- What is read again as it was printed.
use Rattle.std.specs.Prelude.{◌≤◌}
use Rattle.std.specs.List.{AllByRecursion}
use Rattle.uc_term.specs.Table.{Table as SymbolTable}
use Rattle.uc_clause.specs.Printable.{IsPrintableSymbol}
use Rattle.uc_table.specs.declared.table.Table.{Table}
use Rattle.uc_table.specs.Tables.{IsTableOf, cells_for, MOST_CELLS}

-- A table of its own symbols, which have names that can be spelled and at most 255 arguments, with at most 65,536 cells.
pub record IsPrintableTable (symbols : SymbolTable) (table : Table) : Type 0 where
  pub is : IsTableOf symbols table.symbols table
  pub names : AllByRecursion (IsPrintableSymbol symbols) table.symbols
  pub few : cells_for symbols table.size table.symbols ≤ MOST_CELLS
