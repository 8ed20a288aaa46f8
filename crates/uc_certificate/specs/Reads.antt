-- What the readers of a certificate's parts answer.
use Rattle.std.specs.Prelude.{◌≡◌, ℕ, ◌+◌, ◌<◌, ◌≤◌, ◌^◌, ◌-◌, min, List, length, drop, slice_get, take, Option, Some, None, Result, Ok, Err}
use Rattle.std.specs.List.{suffix_len}
use Rattle.uc_term.specs.Table.{Table, Grows}
use Rattle.uc_clause.specs.declared.token.Token.{Token}
use Rattle.uc_clause.specs.Bytes.{in_line}
use Rattle.uc_clause.specs.Terminals.{terminal_at, bytes_at}
use Rattle.uc_clause.specs.Rules.{read}
use Rattle.uc_clause.specs.Rules as tokens
use Rattle.uc_clause.specs.Meaning.{Variables}
use Rattle.uc_clause.specs.Printing.{variable_text}
use Rattle.uc_system.specs.Lines.{first_line}
use Rattle.uc_certificate.specs.declared.fault.CertFault.{CertFault}
use Rattle.uc_certificate.specs.declared.fault.CertFault.TheVariants.{NoMemory}
use Rattle.uc_system.specs.declared.system.SystemText.{SystemText}
use Rattle.uc_certificate.specs.declared.certificate.Certificate.{Certificate}
use Rattle.uc_certificate.specs.Reading.{rest_of_certificate}
use Rattle.uc_certificate.specs.Parts.{Outcome, gets, fails, Rule}
use Rattle.uc_certificate.specs.JoinLines.{MOST_VARIABLES, variable_by}

-- a line begins here
abbrev pub IsStart : List ℕ → ℕ → Type 0
IsStart text at = suffix_len in_line (take at text) ≡ 0

-- this line stands here, with its line feed
pub record IsLine (text : List ℕ) (at : ℕ) (line : List ℕ) : Type 0 where
  pub is : first_line (drop at text) ≡ Some (record { line = line; rest = drop (at + length line + 1) text })
  pub within : at + length line < length text

-- a reader that takes no memory goes on to a byte of the text or its end, or refuses, as the rule does
abbrev pub Goes : Rule (Unit {0}) → List ℕ → ℕ → Result ℕ CertFault → Type 0
Goes rule text at (Ok next) = rule at (gets tt next) × (next ≤ length text)
Goes rule text at (Err fault) = rule at (fails fault)

-- the same of one that takes memory and gives a value
abbrev pub Gives : {V : Type 0} → Rule V → List ℕ → ℕ → Result (V × ℕ) CertFault → Type 0
Gives rule text at (Ok r) = rule at (gets r.0 r.1) × (r.1 ≤ length text)
Gives rule text at (Err NoMemory) = Unit {0}
Gives rule text at (Err fault) = rule at (fails fault)

-- And of one that reads in this table of symbols. What it gives stays so in each table that begins
-- with it.
abbrev pub GivesIn : {V : Type 0} → (Table → Rule V) → Table → List ℕ → ℕ → Result (V × ℕ) CertFault → Type 0
GivesIn rule table text at (Ok r) = ((later : Table) → Grows table later → rule later at (gets r.0 r.1)) × (r.1 ≤ length text)
GivesIn rule table text at (Err NoMemory) = Unit {0}
GivesIn rule table text at (Err fault) = rule table at (fails fault)

-- the same of what stands behind the text of a system
abbrev pub ReadsRest : Table → List ℕ → SystemText → ℕ → Result Certificate CertFault → Type 0
ReadsRest table text said at (Ok certificate) = (end : ℕ) × rest_of_certificate table text said at (gets certificate end)
ReadsRest table text said at (Err NoMemory) = Unit {0}
ReadsRest table text said at (Err fault) = rest_of_certificate table text said at (fails fault)

-- the derivation's lines, the numbers of the facts' lines and the joins are fewer than 2^31
pub record AreFew (certificate : Certificate) : Type 0 where
  pub lines : length certificate.lines.lines < 2 ^ 31
  pub facts : length certificate.facts < 2 ^ 31
  pub joins : length certificate.joins < 2 ^ 31

-- From a token on the rule reads a parse, up to another token; it makes the new table of the old, and means this value in each
-- table that begins with the new one.
pub record ReadsAs {P V : Type 0} (rule : tokens.Rule P) (Means : Table → P → V → Type 0) (with_all : Table → P → Table) (from end : ℕ) (old new : Table) (v : V) : Type 0 where
  pub parse : P
  pub reads : rule from (read parse end)
  pub means : (later : Table) → Grows new later → Means later parse v
  pub interns : new ≡ with_all old parse

-- names of the first variables in order, among which each that a token names is
pub record AreVariables (bytes : List ℕ) (list : List Token) (seen : Variables) : Type 0 where
  pub names : (n : ℕ) (name : List ℕ) → slice_get seen n ≡ Some name → name ≡ variable_text n
  pub all : (at n : ℕ) → variable_by (terminal_at bytes list at) (bytes_at bytes list at) ≡ Some n → n < length seen
  pub few : length seen ≤ MOST_VARIABLES
