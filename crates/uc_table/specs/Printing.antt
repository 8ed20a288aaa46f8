-- How a table is printed, line by line:
--
--   % table 1
--   % size N
--   % symbol NAME ARITY        for each symbol, with its values in the next line
--   V V ..
--   % end
use Rattle.std.specs.Prelude.{ℕ, List, [], ◌∷◌, ◌++◌, codes, decimal}
use Rattle.uc_term.specs.declared.node.Sym.{Sym}
use Rattle.uc_term.specs.Table.{Table as SymbolTable, name_of, arity_of}
use Rattle.uc_clause.specs.Names.{spelling}
use Rattle.uc_table.specs.declared.table.Table.{Table}

-- the line, with its line feed
abbrev pub ended : List ℕ → List ℕ
ended line = line ++ codes "\n"

abbrev pub table_words : List ℕ
table_words = codes "% table "

abbrev pub table_line : List ℕ
table_line = codes "% table 1"

abbrev pub size_words : List ℕ
size_words = codes "% size "

abbrev pub size_line : ℕ → List ℕ
size_line size = size_words ++ decimal size

abbrev pub end_line : List ℕ
end_line = codes "% end"

abbrev pub symbol_line : SymbolTable → Sym → List ℕ
symbol_line symbols f = codes "% symbol " ++ spelling (name_of symbols f) ++ codes " " ++ decimal (arity_of symbols f)

-- values with a space before each of them
abbrev pub spaced : List ℕ → List ℕ
spaced [] = []
spaced (v ∷ vs) = codes " " ++ decimal v ++ spaced vs

-- values with a space between any two
abbrev pub values_line : List ℕ → List ℕ
values_line [] = []
values_line (v ∷ vs) = decimal v ++ spaced vs

abbrev pub rows_text : SymbolTable → List Sym → List (List ℕ) → List ℕ
rows_text symbols (f ∷ fs) (row ∷ rows) = ended (symbol_line symbols f) ++ ended (values_line row) ++ rows_text symbols fs rows
rows_text symbols fs rows = []

abbrev pub table_text : SymbolTable → Table → List ℕ
table_text symbols table = ended table_line ++ ended (size_line table.size) ++ rows_text symbols table.symbols table.cells ++ ended end_line
