-- Rules of the grammar of formulas: relations between the number of a token and what reading from there comes to.
use Rattle.std.specs.Prelude.{◌≡◌, ◌≢◌, ℕ, ◌+◌, List, Option, Some, None, Result, Ok, Err}
use Rattle.uc_clause.specs.declared.grammar.stop.Why.{Why}
use Rattle.uc_clause.specs.Rules as clause
use Rattle.uc_fof.specs.declared.stop.Reason.{Reason}
use Rattle.uc_fof.specs.declared.stop.Reason.TheVariants.{Outside}
use Rattle.uc_fof.specs.declared.stop.Halt.{Halt}
use Rattle.uc_fof.specs.declared.stop.Halt.TheVariants.{At, NoMemory}

-- what reading comes to: a value and the number of the token behind it, or a stop at a token
pub data Outcome (V : Type 0) : Type 0 where
  read : V → ℕ → Outcome V
  stop : Reason → ℕ → Outcome V

abbrev pub Rule : Type 0 → Type 1
Rule V = ℕ → Outcome V → Type 0

-- the value turned into another
abbrev pub mapped : {V W : Type 0} → (V → W) → Outcome V → Outcome W
mapped f (read v end) = read (f v) end
mapped f (stop reason k) = stop reason k

-- one rule and then another, which the first one's value may choose
pub data Then {V W : Type 0} (first : Rule V) (next : V → Rule W) (at : ℕ) : Outcome W → Type 0 where
  goes_on : {v : V} {middle : ℕ} {outcome : Outcome W} → first at (read v middle) → next v middle outcome → Then first next at outcome
  stops_first : {reason : Reason} {k : ℕ} → first at (stop reason k) → Then first next at (stop reason k)

infixl 10 ◌>>=◌
abbrev pub ◌>>=◌ : {V W : Type 0} → Rule V → (V → Rule W) → Rule W
first >>= next = Then first next

-- the value with no token
abbrev pub gives : {V : Type 0} → V → Rule V
gives v at outcome = outcome ≡ read v at

-- the number of the next token
abbrev pub here : Rule ℕ
here at outcome = outcome ≡ read at at

-- what the next token's value, where it has one, comes to
abbrev pub read_or_stop : {V : Type 0} → Reason → Option V → ℕ → Outcome V
read_or_stop reason (Some v) at = read v (at + 1)
read_or_stop reason None at = stop reason at

-- the value of the next token, or a stop there
abbrev pub pick : {V : Type 0} → Reason → Option V → Rule V
pick reason value at outcome = outcome ≡ read_or_stop reason value at

-- a stop at the next token
abbrev pub stops : {V : Type 0} → Reason → Rule V
stops reason at outcome = outcome ≡ stop reason at

-- the next token where it passes this test, or a stop there
abbrev pub the : (ℕ → Type 0) → Reason → Rule (Unit {0})
the passes reason at (read v end) = passes at × (end ≡ at + 1)
the passes reason at (stop other k) = (passes at → ⊥) × (other ≡ reason) × (k ≡ at)

-- the first rule where the next token passes this test, else the second
pub data Choice {V : Type 0} (passes : ℕ → Type 0) (first second : Rule V) (at : ℕ) (outcome : Outcome V) : Type 0 where
  is_first : passes at → first at outcome → Choice passes first second at outcome
  is_second : (passes at → ⊥) → second at outcome → Choice passes first second at outcome

-- what a rule of clauses comes to, here outside a formula
abbrev pub outside : {V : Type 0} → clause.Outcome V → Outcome V
outside (clause.read v end) = read v end
outside (clause.stop why k) = stop (Outside why) k

-- a rule of clauses
pub data AsIn {V : Type 0} (rule : clause.Rule V) (at : ℕ) : Outcome V → Type 0 where
  as_in : {outcome : clause.Outcome V} → rule at outcome → AsIn rule at (outside outcome)

-- what a reader stops for is what the rule stops for, or want of memory
abbrev pub Stops : {V : Type 0} → (Outcome V → Type 0) → Halt → Type 0
Stops outcome (At reason k) = outcome (stop reason k)
Stops outcome NoMemory = Unit {0}

-- a reader that gives the number of the token behind goes on or stops as the rule does
abbrev pub Goes : (Outcome (Unit {0}) → Type 0) → Result ℕ Halt → Type 0
Goes outcome (Ok end) = outcome (read tt end)
Goes outcome (Err e) = Stops outcome e

-- a reader that gives a value and the number of the token behind it reads or stops as the rule does
abbrev pub Gives : {V : Type 0} → (Outcome V → Type 0) → Result (V × ℕ) Halt → Type 0
Gives outcome (Ok r) = outcome (read r.0 r.1)
Gives outcome (Err e) = Stops outcome e
