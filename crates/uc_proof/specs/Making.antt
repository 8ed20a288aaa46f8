-- How the lines of a proof are made: which parts are needed, what is found in a plan, and what a line is made of.
use Rattle.std.specs.Prelude.{ℕ, ◌≡◌, ◌+◌, ◌<◌, ◌⊎◌, ◌++◌, length, List, [], ◌∷◌, Option, Some, None, slice_get}
use Rattle.std.specs.List.{flat_map, AllByRecursion}
use Rattle.uc_term.specs.Tree.{Tree, nodes}
use Rattle.uc_term.specs.Variables.{variables}
use Rattle.uc_term.specs.declared.equation.Equation.{Equation}
use Rattle.uc_clause.specs.declared.clause.Sourced.{Sourced}
use Rattle.uc_check.specs.declared.proof.Line.{Line}
use Rattle.uc_check.specs.declared.proof.LineStep.{LineStep}
use Rattle.uc_check.specs.declared.proof.LineSource.{LineSource}
use Rattle.uc_fact.specs.declared.chain.By.TheVariants.{Axiom as AxiomOf, Fact as FactOf}
use Rattle.uc_fact.specs.declared.chain.Step.{Step}
use Rattle.uc_fact.specs.declared.chain.Chain.{Chain}
use Rattle.uc_fact.specs.declared.fact.Fact.{Fact}
use Rattle.uc_problem.specs.declared.problem.Problem.{Problem}
use Rattle.uc_problem.specs.declared.problem.Encoded.{Encoded}
use Rattle.uc_problem.specs.declared.problem.Source.{Source}
use Rattle.uc_problem.specs.declared.problem.Source.TheVariants as source
use Rattle.uc_proof.specs.declared.aim.Aim.{Aim}
use Rattle.uc_proof.specs.declared.aim.Aim.TheVariants as aim
use Rattle.uc_proof.specs.declared.part.Part.{Part}
use Rattle.uc_proof.specs.declared.part.Part.TheVariants as part
use Rattle.uc_proof.specs.Chains.{AreBorn}
use Rattle.uc_proof.specs.Needed.{IsUsed}
use Rattle.uc_rewrite.specs.Replay.{LeadsFrom}
use Rattle.uc_proof.specs.Parts.{part_of, Selects}
use Rattle.uc_proof.specs.Written.{equation_line, chain_source, AreStepsFor}

-- the part is one of them
abbrev pub IsAmong : Part → List Part → Type 0
IsAmong p [] = ⊥
IsAmong p (q ∷ qs) = (q ≡ p) ⊎ IsAmong p qs

-- one of the steps is by the equation of the part's line
abbrev pub IsNamedPart : List Step → Part → Type 0
IsNamedPart [] p = ⊥
IsNamedPart (step ∷ steps) p = (part_of step.by ≡ p) ⊎ IsNamedPart steps p

-- an axiom or a fact that is used
abbrev pub IsUsedPart : List Fact → Aim → Part → Type 0
IsUsedPart facts a (part.Axiom k) = IsUsed facts a (AxiomOf k)
IsUsedPart facts a (part.Fact n) = IsUsed facts a (FactOf n)
IsUsedPart facts a other = ⊥

-- the part is one of these facts
abbrev pub IsFactPart : List ℕ → Part → Type 0
IsFactPart [] p = ⊥
IsFactPart (n ∷ ns) p = (part.Fact n ≡ p) ⊎ IsFactPart ns p

-- an axiom or a fact that the aim names
abbrev pub IsAimedPart : Aim → Part → Type 0
IsAimedPart (aim.Goal chain goal) p = IsNamedPart chain.steps p
IsAimedPart (aim.Facts live) p = IsFactPart live p

-- the aim's goal is one of the encoded problem
abbrev pub IsWithin : Encoded → Aim → Type 0
IsWithin encoded (aim.Goal chain goal) = goal < length encoded.goal_clauses
IsWithin encoded (aim.Facts live) = Unit {0}

-- of a goal: its clause, where it is one of the problem's, its chain and the refutation
abbrev pub IsGoalPart : Encoded → Aim → Part → Type 0
IsGoalPart encoded (aim.Goal chain goal) (part.Denial c) = slice_get encoded.goal_clauses goal ≡ Some (Some c)
IsGoalPart encoded (aim.Goal chain goal) part.Conclusion = Unit {0}
IsGoalPart encoded (aim.Goal chain goal) part.Refutation = Unit {0}
IsGoalPart encoded (aim.Goal chain goal) other = ⊥
IsGoalPart encoded (aim.Facts live) p = ⊥

-- each fact's chain names earlier facts alone
abbrev pub NameEarlier : List Fact → Type 0
NameEarlier facts = (n m : ℕ) (fact : Fact) → slice_get facts n ≡ Some fact → IsNamedPart fact.chain.steps (part.Fact m) → m < n

-- the part is the clause of the goal that is the source
abbrev pub IsGoalOf : Source → Part → Type 0
IsGoalOf (source.Goal c) p = part.Denial c ≡ p
IsGoalOf other p = ⊥

-- the clause of a goal whose encoded axiom is among the parts, by sources of which the first has this number
abbrev pub IsDeniedFrom : ℕ → List Source → List Part → Part → Type 0
IsDeniedFrom n [] parts p = ⊥
IsDeniedFrom n (s ∷ ss) parts p = (IsAmong (part.Axiom n) parts × IsGoalOf s p) ⊎ IsDeniedFrom (n + 1) ss parts p

-- the part is the clause
abbrev pub IsClauseOf : Option ℕ → Part → Type 0
IsClauseOf None p = ⊥
IsClauseOf (Some c) p = part.Denial c ≡ p

-- each of these facts is among the parts
abbrev pub HaveParts : List Part → List ℕ → Type 0
HaveParts parts live = AllByRecursion (λ n. IsAmong (part.Fact n) parts) live

-- of these parts those are added that are so, in order
pub record Adds (Is : Part → Type 0) (parts old new : List Part) : Type 0 where
  pub more : List Part
  pub new_is : new ≡ old ++ more
  pub selected : Selects Is parts more

-- each part has the number of a place where it stands
pub data HasNumber (parts : List Part) (p : Part) : List (Part × ℕ) → Type 0 where
  number_here : {q : Part} {n : ℕ} {rest : List (Part × ℕ)} → q ≡ p → slice_get parts n ≡ Some p → HasNumber parts p ((q, n) ∷ rest)
  number_later : {q : Part} {n : ℕ} {rest : List (Part × ℕ)} → (q ≡ p → ⊥) → HasNumber parts p rest → HasNumber parts p ((q, n) ∷ rest)

abbrev pub AreNumbered : List Part → List (Part × ℕ) → Type 0
AreNumbered parts numbers = (p : Part) → IsAmong p parts → HasNumber parts p numbers

-- each step's position is one of the term before it
abbrev pub AreInside : Tree → List Step → Type 0
AreInside before [] = Unit {0}
AreInside before (step ∷ steps) = (step.position.0 < nodes before) × AreInside step.to steps

-- the chain can be written: the plan has all that its steps name
pub record IsReady (plan : List Part) (chain : Chain) : Type 0 where
  pub named : (p : Part) → IsNamedPart chain.steps p → IsAmong p plan
  pub inside : AreInside chain.start chain.steps

-- it is the source of a line for the chain
pub record IsSourceFor (plan : List Part) (chain : Chain) (written : LineSource) : Type 0 where
  pub steps : List LineStep
  pub are_steps : AreStepsFor plan chain.start chain.steps steps
  pub written_is : written ≡ chain_source chain.start steps

-- what the line of an axiom needs
abbrev pub IsSourceReady : Problem → List Part → Option Source → Type 0
IsSourceReady problem plan (Some (source.Clause c)) = (s : Sourced) × (slice_get problem.clauses c ≡ Some s)
IsSourceReady problem plan (Some source.Reflexive) = Unit {0}
IsSourceReady problem plan (Some (source.Goal c)) = IsAmong (part.Denial c) plan
IsSourceReady problem plan None = ⊥

-- what the line of the refutation needs
abbrev pub IsGoalReady : List Part → Option (Option ℕ) → Type 0
IsGoalReady plan (Some (Some c)) = IsAmong (part.Denial c) plan
IsGoalReady plan (Some None) = Unit {0}
IsGoalReady plan None = ⊥

-- what the lines of a goal's chain and of the refutation need
abbrev pub IsConclusionReady : Encoded → List Part → Aim → Type 0
IsConclusionReady encoded plan (aim.Goal chain goal) = (e : Equation) × (slice_get encoded.goals goal ≡ Some e) × IsReady plan chain
IsConclusionReady encoded plan (aim.Facts live) = ⊥

abbrev pub IsRefutationReady : Encoded → List Part → Aim → Type 0
IsRefutationReady encoded plan (aim.Goal chain goal) = IsAmong part.Conclusion plan × IsGoalReady plan (slice_get encoded.goal_clauses goal)
IsRefutationReady encoded plan (aim.Facts live) = ⊥

-- the line of the part can be written
abbrev pub IsPartReady : Problem → Encoded → List Fact → Aim → List Part → Part → Type 0
IsPartReady problem encoded facts a plan (part.Axiom k) = (e : Equation) × (slice_get encoded.axioms k ≡ Some e) × IsSourceReady problem plan (slice_get encoded.sources k)
IsPartReady problem encoded facts a plan (part.Denial c) = (s : Sourced) × (slice_get problem.clauses c ≡ Some s)
IsPartReady problem encoded facts a plan (part.Fact n) = (fact : Fact) × (slice_get facts n ≡ Some fact) × IsReady plan fact.chain
IsPartReady problem encoded facts a plan part.Conclusion = IsConclusionReady encoded plan a
IsPartReady problem encoded facts a plan part.Refutation = IsRefutationReady encoded plan a

-- the line of a chain between the two sides of an equation
pub record IsChainLine (plan : List Part) (chain : Chain) (name : List ℕ) (e : Equation) (line : Line) : Type 0 where
  pub source : LineSource
  pub is_source : IsSourceFor plan chain source
  pub line_is : line ≡ equation_line name source e

-- the variables of steps, from left to right, each as often as it occurs
abbrev pub step_variables : List LineStep → List ℕ
step_variables steps = flat_map (λ (s : LineStep). variables s.to) steps

-- What the aim asks is there: the goal, with a chain that leads from its left to its right side; or the facts.
abbrev pub IsReached : Encoded → List Fact → Aim → Type 0
IsReached encoded facts (aim.Goal chain goal) = (e : Equation) × (slice_get encoded.goals goal ≡ Some e) × LeadsFrom encoded.axioms facts chain e.left e.right
IsReached encoded facts (aim.Facts live) = AreBorn facts live
