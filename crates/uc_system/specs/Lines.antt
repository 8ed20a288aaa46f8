-- Texts line by line: a line ends at a line feed alone. Rules are relations between a line, by its number and the text from its
-- first byte on, and what reading from there comes to.
use Rattle.std.specs.Prelude.{◌≡◌, ℕ, ◌+◌, ◌==◌, List, [], ◌∷◌, Option, Some, None, if◌then◌else◌}
use Rattle.uc_clause.specs.declared.token.Place.{Place}
use Rattle.uc_system.specs.declared.fault.SystemFault.{SystemFault}
use Rattle.uc_system.specs.declared.fault.SystemFault.TheVariants.{Syntax}

-- a line without its line feed, and the text behind that
pub record Cut : Type 0 where
  pub line : List ℕ
  pub rest : List ℕ

abbrev pub with_byte : ℕ → Option Cut → Option Cut
with_byte b None = None
with_byte b (Some c) = Some (record { line = b ∷ c.line; rest = c.rest })

-- the first line of a text; none where no line feed ends it
abbrev pub first_line : List ℕ → Option Cut
first_line [] = None
first_line (b ∷ bs) = if b == 10 then Some (record { line = []; rest = bs }) else with_byte b (first_line bs)

-- behind so many bytes of the line of this number
abbrev pub place_in : ℕ → ℕ → Place
place_in n bytes = record { line = n; column = bytes + 1 }

-- the line of this number, or the end of the text there, isn't called for
abbrev pub departs : ℕ → SystemFault
departs n = Syntax (place_in n 0)

-- what reading comes to: a value, with the number of the next line and the text from there on; or a fault
pub data Outcome (V : Type 0) : Type 0 where
  gets : V → ℕ → List ℕ → Outcome V
  fails : SystemFault → Outcome V

abbrev pub Rule : Type 0 → Type 1
Rule V = ℕ → List ℕ → Outcome V → Type 0

-- one rule and then another, which the first one's value may choose
pub data Then {V W : Type 0} (first : Rule V) (next : V → Rule W) (n : ℕ) (text : List ℕ) : Outcome W → Type 0 where
  goes_on : {v : V} {m : ℕ} {rest : List ℕ} {outcome : Outcome W} → first n text (gets v m rest) → next v m rest outcome → Then first next n text outcome
  fails_first : {fault : SystemFault} → first n text (fails fault) → Then first next n text (fails fault)

infixl 10 ◌>>=◌
abbrev pub ◌>>=◌ : {V W : Type 0} → Rule V → (V → Rule W) → Rule W
first >>= next = Then first next

-- the value with no line
abbrev pub gives : {V : Type 0} → V → Rule V
gives v n text outcome = outcome ≡ gets v n text

abbrev pub passed_or : Option SystemFault → ℕ → List ℕ → Outcome (Unit {0})
passed_or None n text = gets tt n text
passed_or (Some fault) n text = fails fault

-- no line, but this fault where there is one
abbrev pub unless : Option SystemFault → Rule (Unit {0})
unless fault n text outcome = outcome ≡ passed_or fault n text

-- the number of the next line
abbrev pub here : Rule ℕ
here n text outcome = outcome ≡ gets n n text

-- what the next line's value, where it has one, comes to
abbrev pub value_or : {V : Type 0} → Option V → ℕ → List ℕ → Outcome V
value_or (Some v) n rest = gets v (n + 1) rest
value_or None n rest = fails (departs n)

-- what a line comes to of which this is the value, if it has one; where there is no whole line, the text departs
abbrev pub picked : {V : Type 0} → (List ℕ → Option V) → ℕ → Option Cut → Outcome V
picked value n None = fails (departs n)
picked value n (Some c) = value_or (value c.line) n c.rest

-- the value of the next line
abbrev pub pick : {V : Type 0} → (List ℕ → Option V) → Rule V
pick value n text outcome = outcome ≡ picked value n (first_line text)
