-- Looking through a list of equations.
use Rattle.std.specs.Prelude.{ℕ, ◌+◌, ◌≡◌, ◌++◌, List, [], ◌∷◌}
use Rattle.std.proofs.Common.{arith}
use Rattle.uc_term.specs.Tree.{Tree}
use Rattle.uc_term.specs.declared.equation.Equation.{Equation}
use Rattle.uc_fact.specs.declared.index.Found.{Found}
use Rattle.uc_fact.specs.Live.{Live, Rule, RiseFrom, AreRising, numbered, numbered_from}
use Rattle.uc_fact.specs.Retrieval.{Generalises}

-- a fact of this number
abbrev pub live_fact : ℕ → Equation → Live
live_fact number equation = record { number = number; equation = equation }

-- what the rules give stands behind the old list
pub record Adds (t : Tree) (rules : List Rule) (old new : List Found) : Type 0 where
  pub list : List Found
  pub new_is : new ≡ old ++ list
  pub generalises : Generalises t rules list

-- the places of a list rise
numbered_rise_from : (n : ℕ) (es : List Equation) → RiseFrom n (numbered_from n es)
numbered_rise_from n [] = tt
numbered_rise_from n (e ∷ es) = (omega arith, numbered_rise_from (n + 1) es)

pub numbered_rise : (es : List Equation) → AreRising (numbered es)
numbered_rise es = numbered_rise_from 0 es
