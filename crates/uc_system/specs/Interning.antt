-- The table of symbols that reading a system leaves: the symbols' lines come in order, each adding its name with its arity where the
-- table hasn't got it, and the facts add nothing. So it is one function of the text and of the table before.
use Rattle.std.specs.Prelude.{◌≡◌, ℕ, List, true, false, Some}
use Rattle.uc_term.specs.Table.{Table}
use Rattle.uc_clause.specs.Interning.{with_symbol}
use Rattle.uc_system.specs.declared.header.Kind.{Kind}
use Rattle.uc_system.specs.Numerals.{value_of}
use Rattle.uc_system.specs.Lines.{Cut, first_line}
use Rattle.uc_system.specs.Header.{kind_of}
use Rattle.uc_system.specs.Symbols.{begins_symbol, Parts, IsSymbolLine}

-- the table with the symbol that a line says
abbrev pub with_parts : Table → Parts → Table
with_parts table p = with_symbol table p.name (value_of p.arity)

-- the symbols' lines that stand here make the new table of the old
pub data InternsSymbols (kind : Kind) : List ℕ → Table → Table → Type 0 where
  interns_none : {text : List ℕ} {table : Table} → begins_symbol text ≡ false → InternsSymbols kind text table table
  interns_one : {text : List ℕ} {old new : Table} {c : Cut} {p : Parts} → begins_symbol text ≡ true → first_line text ≡ Some c → IsSymbolLine kind c.line p → InternsSymbols kind c.rest (with_parts old p) new → InternsSymbols kind text old new

-- behind the first two lines of a system, which this text begins with, they make the new table of the old
pub record InternsSystem (text : List ℕ) (old new : Table) : Type 0 where
  pub first : Cut
  pub second : Cut
  pub kind : Kind
  pub is_first : first_line text ≡ Some first
  pub is_second : first_line first.rest ≡ Some second
  pub is_kind : kind_of second.line ≡ Some kind
  pub interns : InternsSymbols kind second.rest old new
