-- A table of symbols: for each symbol, by number, its name and its arity.
use Rattle.std.specs.Coded.{Coded, code_by, coded_list, coded_ℕ, coded×}
use Rattle.std.specs.Prelude.{ℕ, ◌≡◌, ◌<◌, ◌⊎◌, ◌++◌, List, [], ◌∷◌, refl, length, slice_get, unwrap_or, Some}
use Rattle.uc_term.specs.declared.node.Sym.{Sym}
use Rattle.uc_term.specs.Tree.{Tree}
use Rattle.uc_term.specs.Over.{IsTerm}

-- a name with an arity
pub record Entry : Type 0 where
  pub name : List ℕ
  pub arity : ℕ

abbrev pub Table : Type 0
Table = List Entry

-- what the table has at this symbol's number; past the end, an empty name
abbrev pub entry_of : Table → Sym → Entry
entry_of table f = unwrap_or (slice_get table f.0) (record { name = []; arity = 0 })

abbrev pub name_of : Table → Sym → List ℕ
name_of table f = (entry_of table f).name

abbrev pub arity_of : Table → Sym → ℕ
arity_of table f = (entry_of table f).arity

-- the table has this symbol
abbrev pub Has : Table → Sym → Type 0
Has table f = f.0 < length table

-- the table has this name with this arity at this symbol
abbrev pub IsSymbol : Table → Sym → List ℕ → ℕ → Type 0
IsSymbol table f name arity = slice_get table f.0 ≡ Some (record { name = name; arity = arity })

-- no two symbols of the table have the same name and the same arity
abbrev pub IsDistinct : Table → Type 0
IsDistinct table = (i j : ℕ) (e : Entry) → slice_get table i ≡ Some e → slice_get table j ≡ Some e → i ≡ j

-- the table has grown: what it had it has, under the same numbers
abbrev pub Grows : Table → Table → Type 0
Grows old new = (tail : Table) × (new ≡ old ++ tail)

-- every symbol of the term is the table's, with its arity there
abbrev pub IsOf : Table → Tree → Type 0
IsOf table = IsTerm (Has table) (arity_of table)

-- f is the symbol of this name and this arity in the new table, which is the old one where that had it, and else the old
-- one with this entry at its end
abbrev pub IsInterned : Table → Table → List ℕ → ℕ → Sym → Type 0
IsInterned old new name arity f =
    IsSymbol new f name arity × (((new ≡ old) × Has old f) ⊎ ((new ≡ old ++ record { name = name; arity = arity } ∷ []) × ((g : Sym) → IsSymbol old g name arity → ⊥)))

-- the table is as it was, or has this symbol's entry at its end
abbrev pub AddsAtMost : Table → Table → Sym → Type 0
AddsAtMost old new f = (new ≡ old) ⊎ (new ≡ old ++ entry_of new f ∷ [])

abbrev pub entry_code : Coded Entry
entry_code = code_by (List ℕ × ℕ) (coded× (coded_list coded_ℕ) coded_ℕ) (λ e. (e.name, e.arity)) (λ p. record { name = p.0; arity = p.1 }) (λ _. refl)

abbrev pub table_code : Coded Table
table_code = coded_list entry_code
