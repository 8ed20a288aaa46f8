-- What is used: the axioms and facts that an aim names, directly or through facts.
use Rattle.std.specs.Prelude.{ℕ, ◌≡◌, ◌⊎◌, List, [], ◌∷◌, slice_get, Some}
use Rattle.uc_fact.specs.declared.chain.By.{By}
use Rattle.uc_fact.specs.declared.chain.By.TheVariants.{Axiom as AxiomOf, Fact as FactOf}
use Rattle.uc_fact.specs.declared.chain.Step.{Step}
use Rattle.uc_fact.specs.declared.fact.Fact.{Fact}
use Rattle.uc_problem.specs.declared.problem.Encoded.{Encoded}
use Rattle.uc_problem.specs.declared.problem.Source.TheVariants as source
use Rattle.uc_proof.specs.declared.aim.Aim.{Aim}
use Rattle.uc_proof.specs.declared.aim.Aim.TheVariants as aim
use Rattle.uc_proof.specs.declared.part.Part.{Part}
use Rattle.uc_proof.specs.declared.part.Part.TheVariants as part

-- one of the steps is by it
abbrev pub IsNamedBy : List Step → By → Type 0
IsNamedBy [] by = ⊥
IsNamedBy (step ∷ steps) by = (step.by ≡ by) ⊎ IsNamedBy steps by

-- it is one of these facts
abbrev pub IsOneOf : List ℕ → By → Type 0
IsOneOf [] by = ⊥
IsOneOf (n ∷ ns) by = (FactOf n ≡ by) ⊎ IsOneOf ns by

-- the goal's chain names it, or it is one of the facts
abbrev pub IsAimed : Aim → By → Type 0
IsAimed (aim.Goal chain goal) by = IsNamedBy chain.steps by
IsAimed (aim.Facts live) by = IsOneOf live by

module _ (facts : List Fact) (a : Aim) where
  -- the aim names it, or the chain of a fact that is used
  pub data IsUsed : By → Type 0 where
    by_aim : {by : By} → IsAimed a by → IsUsed by
    by_fact : {by : By} {n : ℕ} {fact : Fact} → IsUsed (FactOf n) → slice_get facts n ≡ Some fact → IsNamedBy fact.chain.steps by → IsUsed by

-- the aim is a goal whose clause is this
abbrev pub IsProvedBy : Encoded → Aim → ℕ → Type 0
IsProvedBy encoded (aim.Goal chain goal) c = slice_get encoded.goal_clauses goal ≡ Some (Some c)
IsProvedBy encoded (aim.Facts live) c = ⊥

-- the aim is a goal
abbrev pub IsGoal : Aim → Type 0
IsGoal (aim.Goal chain goal) = Unit {0}
IsGoal (aim.Facts live) = ⊥

module _ (encoded : Encoded) (facts : List Fact) (a : Aim) where
  -- the clause is that of the proved goal, or of a goal whose encoded axiom is used
  pub data IsDenied (c : ℕ) : Type 0 where
    is_proved : IsProvedBy encoded a c → IsDenied c
    is_encoded : {k : ℕ} → slice_get encoded.sources k ≡ Some (source.Goal c) → IsUsed facts a (AxiomOf k) → IsDenied c

  -- there is a line for it
  abbrev pub IsNeeded : Part → Type 0
  IsNeeded (part.Axiom k) = IsUsed facts a (AxiomOf k)
  IsNeeded (part.Denial c) = IsDenied c
  IsNeeded (part.Fact n) = IsUsed facts a (FactOf n)
  IsNeeded part.Conclusion = IsGoal a
  IsNeeded part.Refutation = IsGoal a
