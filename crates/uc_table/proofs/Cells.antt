-- The cells of a table, and the values of terms.
use Rattle.std.proofs.Common.{ℕ, zero, suc, ◌<◌, Bool, true, false, List, [], ◌∷◌, get_or, if◌then◌else◌, sym, subst, arith}
use Rattle.uc_term.specs.declared.node.Sym.{Sym}
use Rattle.uc_term.specs.Signatures.{same_symbol}
use Rattle.uc_term.specs.Table.{Table as SymbolTable}
use Rattle.uc_term.specs.Tree.{Tree, var, app}
use Rattle.uc_table.specs.declared.table.Table.{Table}
use Rattle.uc_table.specs.Algebras.{place_of, cells_among, cells_of, operation, value, values_by}
use Rattle.uc_table.specs.Tables.{AreValues, AreRows, IsTableOf}
use Rattle.uc_table.specs.Models.{Assigns}

-- a value of a list of values, or 0 behind its end, is below the size
pub get_below : (size : ℕ) → 0 < size → (vs : List ℕ) (i : ℕ) → AreValues size vs → get_or vs i 0 < size
get_below size some [] i h = some
get_below size some (v ∷ vs) zero h = h.0
get_below size some (v ∷ vs) (suc i) h = get_below size some vs i h.1

module _ (symbols : SymbolTable) (size : ℕ) where
  -- the cells of a symbol are values
  pub cells_below : (fs : List Sym) (rows : List (List ℕ)) (f : Sym) → AreRows symbols size fs rows → AreValues size (cells_among fs rows f)
  cells_below [] rows f h = tt
  cells_below (g ∷ gs) [] f h = absurd h
  cells_below (g ∷ gs) (row ∷ rows) f h = go (same_symbol g f) (cells_below gs rows f h.1)
    where
      go : (b : Bool) → AreValues size (cells_among gs rows f) → AreValues size (if b then row else cells_among gs rows f)
      go true later = h.0.values
      go false later = later

module _ {symbols : SymbolTable} {signature : List Sym} {table : Table} (is : IsTableOf symbols signature table) where
  pub table_rows : AreRows symbols table.size table.symbols table.cells
  table_rows = subst (λ fs. AreRows symbols table.size fs table.cells) (sym is.symbols_are) is.rows

  pub operation_below : (f : Sym) (args : List ℕ) → operation table f args < table.size
  operation_below f args =
      let some : 0 < table.size = omega (arith, is.some) in
      get_below table.size some (cells_of table f) (place_of table.size args) (cells_below symbols table.size table.symbols table.cells f table_rows)

  pub value_below : (α : ℕ → ℕ) → Assigns table.size α → (t : Tree) → value table α t < table.size
  value_below α below (var x) = below x
  value_below α below (app f ts) = operation_below f (values_by (operation table) α ts)
