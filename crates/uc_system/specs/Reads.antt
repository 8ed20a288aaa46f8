-- What the readers of lines answer.
use Rattle.std.specs.Prelude.{◌≡◌, List, drop, ℕ, Result, Ok, Err, Some}
use Rattle.uc_term.specs.Table.{Table, Grows}
use Rattle.uc_system.specs.declared.fault.SystemFault.{SystemFault}
use Rattle.uc_system.specs.declared.fault.SystemFault.TheVariants.{NoMemory}
use Rattle.uc_system.specs.declared.header.Header.{Header}
use Rattle.uc_system.specs.declared.lines.Cursor.{Cursor}
use Rattle.uc_system.specs.declared.symbols.Ranks.{Ranks}
use Rattle.uc_system.specs.declared.header.Kind.{Kind}
use Rattle.uc_system.specs.Lines.{first_line, gets, fails, Rule}
use Rattle.uc_system.specs.Places.{IsAt}
use Rattle.uc_system.specs.Symbols.{Parts, IsSymbolLine, symbol_lines}
use Rattle.uc_system.specs.Interning.{with_parts}

-- a reader that takes no memory gives or refuses what the rule comes to, and stands at the line behind
abbrev pub Gives : {V : Type 0} → Rule V → List ℕ → Cursor → Result (V × Cursor) SystemFault → Type 0
Gives rule bytes at (Ok r) = rule at.number (drop at.from bytes) (gets r.0 r.1.number (drop r.1.from bytes)) × IsAt bytes r.1
Gives rule bytes at (Err fault) = rule at.number (drop at.from bytes) (fails fault)

-- The same of one that takes memory, in this table of symbols. What it gives stays so in each table that begins with it.
abbrev pub GivesIn : {V : Type 0} → (Table → Rule V) → Table → List ℕ → Cursor → Result (V × Cursor) SystemFault → Type 0
GivesIn rule table bytes at (Ok r) = ((later : Table) → Grows table later → rule later at.number (drop at.from bytes) (gets r.0 r.1.number (drop r.1.from bytes))) × IsAt bytes r.1
GivesIn rule table bytes at (Err NoMemory) = Unit {0}
GivesIn rule table bytes at (Err fault) = rule table at.number (drop at.from bytes) (fails fault)

-- the same of the reader of the symbols' lines
abbrev pub ReadsSymbols : Header → Table → List ℕ → Cursor → Result (Ranks × Cursor) SystemFault → Type 0
ReadsSymbols header table bytes at (Ok r) = ((later : Table) → Grows table later → symbol_lines later header at.number (drop at.from bytes) (gets r.0.ranked.items r.1.number (drop r.1.from bytes))) × IsAt bytes r.1
ReadsSymbols header table bytes at (Err NoMemory) = Unit {0}
ReadsSymbols header table bytes at (Err fault) = symbol_lines table header at.number (drop at.from bytes) (fails fault)

-- a symbol's line stands here, this text behind it, and the new table is the old one with its symbol
pub record InternsLine (kind : Kind) (text rest : List ℕ) (old new : Table) : Type 0 where
  pub line : List ℕ
  pub is_first : first_line text ≡ Some (record { line = line; rest = rest })
  pub parts : Parts
  pub is_symbol : IsSymbolLine kind line parts
  pub new_is : new ≡ with_parts old parts
