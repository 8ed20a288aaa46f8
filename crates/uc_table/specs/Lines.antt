-- Texts line by line: a line ends at a line feed alone. A rule says what reading from the first byte of a line comes to, by the
-- line's number and the text from there on.
use Rattle.std.specs.Prelude.{ℕ, ◌+◌, ◌==◌, List, [], ◌∷◌, bytes_eq, Option, Some, None, if◌then◌else◌}
use Rattle.uc_clause.specs.declared.token.Place.{Place}
use Rattle.uc_table.specs.declared.fault.TableFault.{TableFault}
use Rattle.uc_table.specs.declared.fault.TableFault.TheVariants.{Syntax}

-- a line without its line feed, and the text behind that
pub record Cut : Type 0 where
  pub line : List ℕ
  pub rest : List ℕ

abbrev pub with_byte : ℕ → Option Cut → Option Cut
with_byte b None = None
with_byte b (Some c) = Some (record { line = b ∷ c.line; rest = c.rest })

-- the first line of a text; none where no line feed ends it
abbrev pub first_line : List ℕ → Option Cut
first_line [] = None
first_line (b ∷ bs) = if b == 10 then Some (record { line = []; rest = bs }) else with_byte b (first_line bs)

-- behind so many bytes of the line of this number
abbrev pub place_in : ℕ → ℕ → Place
place_in n bytes = record { line = n; column = bytes + 1 }

-- the line of this number, or the end of the text there, isn't called for
abbrev pub departs : ℕ → TableFault
departs n = Syntax (place_in n 0)

-- what reading comes to: a value, with the number of the next line and the text from there on; or a fault
pub data Outcome (V : Type 0) : Type 0 where
  gets : V → ℕ → List ℕ → Outcome V
  fails : TableFault → Outcome V

abbrev pub Rule : Type 0 → Type 0
Rule V = ℕ → List ℕ → Outcome V

abbrev pub go_on : {V W : Type 0} → Outcome V → (V → Rule W) → Outcome W
go_on (gets v n rest) next = next v n rest
go_on (fails fault) next = fails fault

-- one rule and then another, which the first one's value may choose
infixl 10 ◌>>=◌
abbrev pub ◌>>=◌ : {V W : Type 0} → Rule V → (V → Rule W) → Rule W
(first >>= next) n text = go_on (first n text) next

-- the value with no line
abbrev pub gives : {V : Type 0} → V → Rule V
gives v n text = gets v n text

-- what a line's value, where it has one, comes to
abbrev pub value_or : {V : Type 0} → Option V → ℕ → List ℕ → Outcome V
value_or (Some v) n rest = gets v (n + 1) rest
value_or None n rest = fails (departs n)

-- what a line comes to of which this is the value, if it has one; where there is no whole line, the text departs
abbrev pub picked : {V : Type 0} → (List ℕ → Option V) → ℕ → Option Cut → Outcome V
picked of n None = fails (departs n)
picked of n (Some c) = value_or (of c.line) n c.rest

-- the value of the next line
abbrev pub pick : {V : Type 0} → (List ℕ → Option V) → Rule V
pick of n text = picked of n (first_line text)

-- nothing of a line that is so, and no value of another
abbrev pub just : List ℕ → List ℕ → Option (Unit {0})
just wanted line = if bytes_eq line wanted then Some tt else None

-- the next line is exactly this one
abbrev pub exactly : List ℕ → Rule (Unit {0})
exactly wanted = pick (just wanted)
