-- Numbered equations as facts that live, and their rules by number: those read from the left have even numbers.
use Rattle.std.specs.Prelude.{ℕ, ◌≡◌, ◌+◌, ◌*◌, List, [], ◌∷◌, slice_get, Some, nat_lt, if◌then◌else◌}
use Rattle.uc_term.specs.declared.equation.Equation.{Equation}
use Rattle.uc_term.specs.declared.equation.Side.{Side}
use Rattle.uc_term.specs.declared.equation.Side.TheVariants.{Left, Right}
use Rattle.uc_fact.specs.Live.{Live, rule_of, rules_of}

abbrev pub live_of : ℕ × Equation → Live
live_of f = record { number = f.0; equation = f.1 }

abbrev pub lives : List (ℕ × Equation) → List Live
lives [] = []
lives (f ∷ fs) = live_of f ∷ lives fs

-- the facts whose numbers rise from n on; what doesn't rise is left out, so that this is a list of facts that live for each list
abbrev pub risen : ℕ → List (ℕ × Equation) → List Live
risen n [] = []
risen n (f ∷ fs) = if nat_lt f.0 n then risen n fs else live_of f ∷ risen (f.0 + 1) fs

-- the number of the rule of a fact that is read from this side, when that fact stands at a place
abbrev pub rule_number : ℕ → Side → ℕ
rule_number place Left = 2 * place
rule_number place Right = 2 * place + 1

-- the rule of this number is read from this side of this fact
pub record IsRule (facts : List (ℕ × Equation)) (number : ℕ) (fact : ℕ × Equation) (side : Side) : Type 0 where
  pub is : slice_get (rules_of (lives facts)) number ≡ Some (rule_of side (live_of fact))

-- the fact of this number stands at a place
pub record IsSeated (facts : List (ℕ × Equation)) (number place : ℕ) : Type 0 where
  pub fact : ℕ × Equation
  pub is : slice_get facts place ≡ Some fact
  pub number_is : fact.0 ≡ number
