-- What a file with formulas reads as, and how it is refused.
use Rattle.std.specs.Prelude.{◌≡◌, ℕ, ◌<◌, ◌≤◌, List, length, Result, Ok, Err}
use Rattle.uc_term.specs.Table.{Table}
use Rattle.uc_clause.specs.declared.token.Token.{Token}
use Rattle.uc_clause.specs.declared.token.Place.{Place}
use Rattle.uc_clause.specs.declared.fault.What.TheVariants.{Bytes}
use Rattle.uc_clause.specs.declared.fault.ClauseFault.{ClauseFault}
use Rattle.uc_clause.specs.declared.fault.ClauseFault.TheVariants.{Syntax, Limit}
use Rattle.uc_clause.specs.Tokens.{AreTokens, StopsAt}
use Rattle.uc_fof.specs.declared.stop.Reason.{Reason}
use Rattle.uc_fof.specs.declared.item.FofItem.{FofItem}
use Rattle.uc_fof.specs.Rules.{read, stop}
use Rattle.uc_fof.specs.Parse.{Entry}
use Rattle.uc_fof.specs.Formulas.{Items}
use Rattle.uc_fof.specs.Meaning.{MeanItems}
use Rattle.uc_fof.specs.Refusals.{fault_of}

-- the text is tokens, which are these items from the first to the last of them
pub record AreItems (bytes : List ℕ) (table : Table) (items : List FofItem) : Type 0 where
  pub tokens : List Token
  pub are_tokens : AreTokens bytes tokens
  pub entries : List Entry
  pub end : ℕ
  pub reads : Items bytes tokens 0 (read entries end)
  pub means : MeanItems bytes tokens table entries items

-- the text isn't tokens, or it is, and reading items stops at one of them
pub data ArentItems (bytes : List ℕ) : ClauseFault → Type 0 where
  arent_tokens : {place : Place} → StopsAt bytes place → ArentItems bytes (Syntax place)
  arent_read : {tokens : List Token} {reason : Reason} {k : ℕ} → AreTokens bytes tokens → Items bytes tokens 0 (stop reason k) → ArentItems bytes (fault_of bytes tokens reason k)

-- the file has no more than 16,777,216 bytes and is these items
pub record ReadsFile (bytes : List ℕ) (table : Table) (items : List FofItem) : Type 0 where
  pub small : length bytes ≤ 16777216
  pub reads : AreItems bytes table items

-- a file is refused where it is too long, or else where it isn't items
pub data RefusesFile (bytes : List ℕ) : ClauseFault → Type 0 where
  is_too_long : 16777216 < length bytes → RefusesFile bytes (Limit (record { line = 1; column = 1 }) Bytes)
  isnt_items : {fault : ClauseFault} → length bytes ≤ 16777216 → ArentItems bytes fault → RefusesFile bytes fault

-- what a file comes to in a table of symbols: its items, or a fault
abbrev pub ReadsOrRefusesFile : List ℕ → Table → Result (List FofItem) ClauseFault → Type 0
ReadsOrRefusesFile bytes table (Ok items) = ReadsFile bytes table items
ReadsOrRefusesFile bytes table (Err fault) = RefusesFile bytes fault
