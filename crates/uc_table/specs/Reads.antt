-- What the readers of lines answer.
use Rattle.std.specs.Prelude.{◌≡◌, ℕ, List, drop, Result, Ok, Err}
use Rattle.uc_table.specs.declared.fault.TableFault.{TableFault}
use Rattle.uc_table.specs.declared.fault.TableFault.TheVariants.{NoMemory}
use Rattle.uc_table.specs.declared.lines.Cursor.{Cursor}
use Rattle.uc_table.specs.Lines.{gets, fails, Rule}
use Rattle.uc_table.specs.Places.{IsAt}

-- A reader gives what the rule does, and stands at the line behind; or it refuses as the rule does. Want of memory is free.
abbrev pub Gives : {V : Type 0} → Rule V → List ℕ → Cursor → Result (V × Cursor) TableFault → Type 0
Gives rule bytes at (Ok r) = (rule at.number (drop at.from bytes) ≡ gets r.0 r.1.number (drop r.1.from bytes)) × IsAt bytes r.1
Gives rule bytes at (Err NoMemory) = Unit {0}
Gives rule bytes at (Err fault) = rule at.number (drop at.from bytes) ≡ fails fault

-- the same of a rule without a value
abbrev pub Passes : Rule (Unit {0}) → List ℕ → Cursor → Result Cursor TableFault → Type 0
Passes rule bytes at (Ok next) = (rule at.number (drop at.from bytes) ≡ gets tt next.number (drop next.from bytes)) × IsAt bytes next
Passes rule bytes at (Err NoMemory) = Unit {0}
Passes rule bytes at (Err fault) = rule at.number (drop at.from bytes) ≡ fails fault
