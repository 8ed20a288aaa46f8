-- A table as an algebra, and the value of a term in it.
use Rattle.std.specs.Prelude.{ℕ, ◌+◌, ◌*◌, ◌^◌, List, [], ◌∷◌, length, get_or, if◌then◌else◌}
use Rattle.uc_term.specs.declared.node.Sym.{Sym}
use Rattle.uc_term.specs.Tree.{Tree, var, app, Trees, none, more}
use Rattle.uc_term.specs.Signatures.{same_symbol}
use Rattle.uc_table.specs.declared.table.Table.{Table}

-- The place of a list of values among the lists of its length, from 0, in the order in which the first value changes slowest.
abbrev pub place_of : ℕ → List ℕ → ℕ
place_of size [] = 0
place_of size (v ∷ vs) = v * size ^ length vs + place_of size vs

-- the cells that belong to a symbol, where these lists of cells belong to these symbols in order; none for another symbol
abbrev pub cells_among : List Sym → List (List ℕ) → Sym → List ℕ
cells_among (g ∷ gs) (cells ∷ rows) f = if same_symbol g f then cells else cells_among gs rows f
cells_among gs rows f = []

abbrev pub cells_of : Table → Sym → List ℕ
cells_of table f = cells_among table.symbols table.cells f

-- the value of a symbol for a list of arguments, which is 0 where the table has no cell for it
abbrev pub operation : Table → Sym → List ℕ → ℕ
operation table f args = get_or (cells_of table f) (place_of table.size args) 0

-- the value of a term, where symbols have these operations and variables these values
module _ (op : Sym → List ℕ → ℕ) (α : ℕ → ℕ) where
  abbrev mutual
    pub value_by : Tree → ℕ
    value_by (var x) = α x
    value_by (app f ts) = op f (values_by ts)

    pub values_by : Trees → List ℕ
    values_by none = []
    values_by (more t ts) = value_by t ∷ values_by ts

-- the value of a term in a table under an assignment
abbrev pub value : Table → (ℕ → ℕ) → Tree → ℕ
value table α t = value_by (operation table) α t

-- the assignment that gives variable `n` the value at place `n` of a list
abbrev pub given : List ℕ → ℕ → ℕ
given vs x = get_or vs x 0
