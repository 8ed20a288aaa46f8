-- Rules of a grammar: relations between the number of a token and what reading from there comes to.
use Rattle.std.specs.Prelude.{◌≡◌, ◌≢◌, ℕ, ◌+◌, List, Option, Some, None, Result, Ok, Err}
use Rattle.uc_clause.specs.declared.token.Token.{Token}
use Rattle.uc_clause.specs.declared.terminal.Terminal.{Terminal}
use Rattle.uc_clause.specs.Terminals.{terminal_at}
use Rattle.uc_clause.specs.declared.grammar.stop.Why.{Why}
use Rattle.uc_clause.specs.declared.grammar.stop.Stop.{Stop}
use Rattle.uc_clause.specs.declared.grammar.stop.Stop.TheVariants.{At, NoMemory}

-- what reading comes to: a value and the number of the token behind it, or a stop at a token
pub data Outcome (V : Type 0) : Type 0 where
  read : V → ℕ → Outcome V
  stop : Why → ℕ → Outcome V

abbrev pub Rule : Type 0 → Type 1
Rule V = ℕ → Outcome V → Type 0

-- the value turned into another
abbrev pub mapped : {V W : Type 0} → (V → W) → Outcome V → Outcome W
mapped f (read v end) = read (f v) end
mapped f (stop why k) = stop why k

-- one rule and then another, which the first one's value may choose
pub data Then {V W : Type 0} (first : Rule V) (next : V → Rule W) (at : ℕ) : Outcome W → Type 0 where
  goes_on : {v : V} {middle : ℕ} {outcome : Outcome W} → first at (read v middle) → next v middle outcome → Then first next at outcome
  stops_first : {why : Why} {k : ℕ} → first at (stop why k) → Then first next at (stop why k)

infixl 10 ◌>>=◌
abbrev pub ◌>>=◌ : {V W : Type 0} → Rule V → (V → Rule W) → Rule W
first >>= next = Then first next

-- the value with no token
abbrev pub gives : {V : Type 0} → V → Rule V
gives v at outcome = outcome ≡ read v at

-- the number of the next token
abbrev pub here : Rule ℕ
here at outcome = outcome ≡ read at at

-- what the next token's value, where it has one, comes to
abbrev pub read_or_stop : {V : Type 0} → Why → Option V → ℕ → Outcome V
read_or_stop why (Some v) at = read v (at + 1)
read_or_stop why None at = stop why at

-- the value of the next token, or a stop there
abbrev pub pick : {V : Type 0} → Why → Option V → Rule V
pick why value at outcome = outcome ≡ read_or_stop why value at

-- this very token, or a stop there
abbrev pub the : List ℕ → List Token → Terminal → Why → Rule (Unit {0})
the bytes tokens terminal why at (read v end) = (terminal_at bytes tokens at ≡ terminal) × (end ≡ at + 1)
the bytes tokens terminal why at (stop other k) = (terminal_at bytes tokens at ≢ terminal) × (other ≡ why) × (k ≡ at)

-- the first rule where this token is the next one, else the second
pub data Choice (bytes : List ℕ) (tokens : List Token) {V : Type 0} (terminal : Terminal) (first second : Rule V) (at : ℕ) (outcome : Outcome V) : Type 0 where
  is_first : terminal_at bytes tokens at ≡ terminal → first at outcome → Choice bytes tokens terminal first second at outcome
  is_second : terminal_at bytes tokens at ≢ terminal → second at outcome → Choice bytes tokens terminal first second at outcome

-- what a reader stops for is what the rule stops for, or want of memory
abbrev pub Stops : {V : Type 0} → (Outcome V → Type 0) → Stop → Type 0
Stops outcome (At why k) = outcome (stop why k)
Stops outcome NoMemory = Unit {0}

-- a reader that gives the number of the token behind goes on or stops as the rule does
abbrev pub Goes : (Outcome (Unit {0}) → Type 0) → Result ℕ Stop → Type 0
Goes outcome (Ok end) = outcome (read tt end)
Goes outcome (Err e) = Stops outcome e

-- a reader that gives a value and the number of the token behind it reads or stops as the rule does
abbrev pub Gives : {V : Type 0} → (Outcome V → Type 0) → Result (V × ℕ) Stop → Type 0
Gives outcome (Ok r) = outcome (read r.0 r.1)
Gives outcome (Err e) = Stops outcome e
