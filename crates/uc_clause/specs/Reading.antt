-- What a text reads as, and how it is refused.
use Rattle.std.specs.Prelude.{◌≡◌, ◌⊎◌, ℕ, ◌<◌, ◌≤◌, List, [], length, Result, Ok, Err}
use Rattle.uc_term.specs.Tree.{Tree}
use Rattle.uc_term.specs.Table.{Table}
use Rattle.uc_clause.specs.declared.token.Token.{Token}
use Rattle.uc_clause.specs.declared.token.Place.{Place}
use Rattle.uc_clause.specs.declared.clause.Item.{Item}
use Rattle.uc_clause.specs.declared.grammar.stop.Why.{Why}
use Rattle.uc_clause.specs.declared.fault.What.TheVariants.{Bytes}
use Rattle.uc_clause.specs.declared.fault.ClauseFault.{ClauseFault}
use Rattle.uc_clause.specs.declared.fault.ClauseFault.TheVariants.{Syntax, Limit, NoMemory}
use Rattle.uc_clause.specs.Tokens.{AreTokens, StopsAt}
use Rattle.uc_clause.specs.Rules.{Rule, read, stop}
use Rattle.uc_clause.specs.Parse.{Parse, Sides, Entry}
use Rattle.uc_clause.specs.Terms.{Term}
use Rattle.uc_clause.specs.Items.{Items, term_alone, equals_alone}
use Rattle.uc_clause.specs.Meaning.{Variables, Means, MeansSides, MeanItems, with_names, variables_in}
use Rattle.uc_clause.specs.Refusals.{fault_of}

-- from the token `from` on this term is read, up to the token `end`, with the names of its variables put behind those
-- seen so far
pub record ReadsTermAt (bytes : List ℕ) (tokens : List Token) (from end : ℕ) (seen more_seen : Variables) (table : Table) (t : Tree) : Type 0 where
  pub parse : Parse
  pub reads : Term bytes tokens 0 from (read parse end)
  pub seen_is : more_seen ≡ with_names seen (variables_in bytes tokens parse)
  pub means : Means bytes tokens table more_seen parse t

-- the text is tokens, which the rule reads from the first to the last of them, and what it reads says this
pub record ReadsBy {V P : Type 0} (rule : List ℕ → List Token → Rule P) (says : List ℕ → List Token → P → V → Type 0) (bytes : List ℕ) (v : V) : Type 0 where
  pub tokens : List Token
  pub are_tokens : AreTokens bytes tokens
  pub parse : P
  pub end : ℕ
  pub reads : rule bytes tokens 0 (read parse end)
  pub means : says bytes tokens parse v

-- the text isn't tokens, or it is, and the rule stops at one of them
pub data Refuses {P : Type 0} (rule : List ℕ → List Token → Rule P) (bytes : List ℕ) : ClauseFault → Type 0 where
  isnt_tokens : {place : Place} → StopsAt bytes place → Refuses rule bytes (Syntax place)
  isnt_read : {tokens : List Token} {why : Why} {k : ℕ} → AreTokens bytes tokens → rule bytes tokens 0 (stop why k) → Refuses rule bytes (fault_of bytes tokens why k)

-- a parse says this term, with its variables numbered by first occurrence
abbrev pub SaysTerm : Table → List ℕ → List Token → Parse → Tree → Type 0
SaysTerm table bytes tokens parse t = Means bytes tokens table (with_names [] (variables_in bytes tokens parse)) parse t

abbrev pub SaysSides : Table → List ℕ → List Token → Sides → Tree × Tree → Type 0
SaysSides table bytes tokens sides pair = MeansSides bytes tokens table sides pair.0 pair.1

abbrev pub SaysItems : Table → List ℕ → List Token → List Entry → List Item → Type 0
SaysItems table bytes tokens entries items = MeanItems bytes tokens table entries items

-- the whole text is this term, with its symbols in this table
abbrev pub ReadsTerm : List ℕ → Table → Tree → Type 0
ReadsTerm bytes table t = ReadsBy term_alone (SaysTerm table) bytes t

-- the whole text is the equation of these two terms
abbrev pub ReadsEquation : List ℕ → Table → Tree × Tree → Type 0
ReadsEquation bytes table pair = ReadsBy equals_alone (SaysSides table) bytes pair

-- the file has no more than 16,777,216 bytes and is these items
pub record ReadsFile (bytes : List ℕ) (table : Table) (items : List Item) : Type 0 where
  pub small : length bytes ≤ 16777216
  pub reads : ReadsBy Items (SaysItems table) bytes items

-- a file is refused where it is too long, or else where it isn't items
pub data RefusesFile (bytes : List ℕ) : ClauseFault → Type 0 where
  is_too_long : 16777216 < length bytes → RefusesFile bytes (Limit (record { line = 1; column = 1 }) Bytes)
  isnt_items : {fault : ClauseFault} → length bytes ≤ 16777216 → Refuses Items bytes fault → RefusesFile bytes fault

-- what a file comes to in a table of symbols: its items, or a fault
abbrev pub ReadsOrRefusesFile : List ℕ → Table → Result (List Item) ClauseFault → Type 0
ReadsOrRefusesFile bytes table (Ok items) = ReadsFile bytes table items
ReadsOrRefusesFile bytes table (Err fault) = RefusesFile bytes fault

-- the same of a term
abbrev pub ReadsOrRefusesTerm : List ℕ → Table → Result Tree ClauseFault → Type 0
ReadsOrRefusesTerm bytes table (Ok t) = ReadsTerm bytes table t
ReadsOrRefusesTerm bytes table (Err fault) = Refuses term_alone bytes fault

-- and of the equation of two terms
abbrev pub ReadsOrRefusesEquation : List ℕ → Table → Result (Tree × Tree) ClauseFault → Type 0
ReadsOrRefusesEquation bytes table (Ok pair) = ReadsEquation bytes table pair
ReadsOrRefusesEquation bytes table (Err fault) = Refuses equals_alone bytes fault

-- this is the answer, unless memory is wanted
abbrev pub IsUnlessMemory : {V : Type 0} → Result V ClauseFault → Result V ClauseFault → Type 0
IsUnlessMemory answer result = (result ≡ answer) ⊎ (result ≡ Err NoMemory)

-- a refusal that this relation allows, or want of memory
abbrev pub IsFault : (ClauseFault → Type 0) → ClauseFault → Type 0
IsFault refuses e = refuses e ⊎ (e ≡ NoMemory)

-- a value or a refusal that these relations allow, or want of memory
abbrev pub IsAnswer : {V : Type 0} → (V → Type 0) → (ClauseFault → Type 0) → Result V ClauseFault → Type 0
IsAnswer reads refuses (Ok v) = reads v
IsAnswer reads refuses (Err e) = IsFault refuses e
