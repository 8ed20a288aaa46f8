-- Texts part by part. Rules are relations between a byte of the text and what reading from there comes to.
use Rattle.std.specs.Prelude.{◌≡◌, ℕ}
use Rattle.uc_certificate.specs.declared.fault.CertFault.{CertFault}

-- what reading comes to: a value, and the byte behind what was read; or a fault
pub data Outcome (V : Type 0) : Type 0 where
  gets : V → ℕ → Outcome V
  fails : CertFault → Outcome V

abbrev pub Rule : Type 0 → Type 1
Rule V = ℕ → Outcome V → Type 0

-- one rule and then another, which the first one's value may choose
pub data Then {V W : Type 0} (first : Rule V) (next : V → Rule W) (at : ℕ) : Outcome W → Type 0 where
  goes_on : {v : V} {middle : ℕ} {outcome : Outcome W} → first at (gets v middle) → next v middle outcome → Then first next at outcome
  fails_first : {fault : CertFault} → first at (fails fault) → Then first next at (fails fault)

infixl 10 ◌>>=◌
abbrev pub ◌>>=◌ : {V W : Type 0} → Rule V → (V → Rule W) → Rule W
first >>= next = Then first next

-- the value with nothing read
abbrev pub gives : {V : Type 0} → V → Rule V
gives v at outcome = outcome ≡ gets v at
