-- The line of each part of a proof.
use Rattle.std.specs.Prelude.{ℕ, ◌≡◌, ◌+◌, true, List, [], ◌∷◌, ◌++◌, codes, decimal, slice_get, Some, None}
use Rattle.uc_term.specs.Tree.{Tree, var}
use Rattle.uc_term.specs.Positions.{IsPlaceOf}
use Rattle.uc_term.specs.declared.equation.Equation.{Equation}
use Rattle.uc_clause.specs.declared.clause.Clause.{Clause}
use Rattle.uc_clause.specs.declared.clause.Sourced.{Sourced}
use Rattle.uc_check.specs.declared.proof.Line.{Line}
use Rattle.uc_check.specs.declared.proof.LineStep.{LineStep}
use Rattle.uc_check.specs.declared.proof.LineSource.{LineSource}
use Rattle.uc_check.specs.declared.proof.LineSource.TheVariants.{File, Chain as ByChain, Reflexive, EncodeGoal, Refute}
use Rattle.uc_check.specs.Lines.{named_by}
use Rattle.uc_tstp.specs.Printable.{renumbered_line}
use Rattle.uc_fact.specs.declared.chain.Step.{Step}
use Rattle.uc_fact.specs.declared.chain.Chain.{Chain}
use Rattle.uc_fact.specs.declared.fact.Fact.{Fact}
use Rattle.uc_fact.specs.Live.{equation_of}
use Rattle.uc_problem.specs.declared.problem.Problem.{Problem}
use Rattle.uc_problem.specs.declared.problem.Encoded.{Encoded}
use Rattle.uc_problem.specs.declared.problem.Source.TheVariants as source
use Rattle.uc_proof.specs.declared.aim.Aim.{Aim}
use Rattle.uc_proof.specs.declared.aim.Aim.TheVariants as aim
use Rattle.uc_proof.specs.declared.part.Part.{Part}
use Rattle.uc_proof.specs.declared.part.Part.TheVariants as part
use Rattle.uc_proof.specs.Parts.{part_of}

-- the name of the line of a number: p1, p2 and so on
abbrev pub line_name : ℕ → List ℕ
line_name k = codes "p" ++ decimal (k + 1)

-- a clause of the problem
abbrev pub clause_line : List ℕ → Clause → Line
clause_line name c = record { name = name; source = File c.name; left = c.left; right = c.right; positive = c.positive }

-- an equation
abbrev pub equation_line : List ℕ → LineSource → Equation → Line
equation_line name from e = record { name = name; source = from; left = e.left; right = e.right; positive = true }

-- a refutation, which has no equation
abbrev pub refute_line : List ℕ → List ℕ → Line
refute_line name parents = record { name = name; source = Refute parents; left = var 0; right = var 0; positive = true }

-- the parents of a chain are the lines that its steps name, each once, by first use
abbrev pub chain_source : Tree → List LineStep → LineSource
chain_source start steps = ByChain start steps (named_by steps)

module _ (plan : List Part) where
  -- the step names the line of its equation, and its position by a path
  pub record IsStepFor (before : Tree) (step : Step) (written : LineStep) : Type 0 where
    pub by : slice_get plan written.by ≡ Some (part_of step.by)
    pub way : written.left_to_right ≡ step.left_to_right
    pub path : IsPlaceOf before written.path step.position.0
    pub to : written.to ≡ step.to

  -- the steps from a term on
  abbrev pub AreStepsFor : Tree → List Step → List LineStep → Type 0
  AreStepsFor before [] [] = Unit {0}
  AreStepsFor before (step ∷ steps) (w ∷ ws) = IsStepFor before step w × AreStepsFor step.to steps ws
  AreStepsFor before steps ws = ⊥

-- What the line of a part says, where the parts of the lines are planned so: with the variables of its clauses and chains.
module _ (problem : Problem) (encoded : Encoded) (facts : List Fact) (a : Aim) (plan : List Part) (name : List ℕ) where
  pub data Says : Part → Line → Type 0 where
    says_clause : {k c : ℕ} {s : Sourced} → slice_get encoded.sources k ≡ Some (source.Clause c) → slice_get problem.clauses c ≡ Some s → Says (part.Axiom k) (clause_line name s.clause)
    says_denial : {c : ℕ} {s : Sourced} → slice_get problem.clauses c ≡ Some s → Says (part.Denial c) (clause_line name s.clause)
    says_reflexive : {k : ℕ} {e : Equation} → slice_get encoded.sources k ≡ Some source.Reflexive → slice_get encoded.axioms k ≡ Some e → Says (part.Axiom k) (equation_line name (Reflexive []) e)
    says_goal : {k c denial : ℕ} {e : Equation} → slice_get encoded.sources k ≡ Some (source.Goal c) → slice_get encoded.axioms k ≡ Some e → slice_get plan denial ≡ Some (part.Denial c) → Says (part.Axiom k) (equation_line name (EncodeGoal (denial ∷ [])) e)
    says_fact : {n : ℕ} {fact : Fact} {steps : List LineStep} → slice_get facts n ≡ Some fact → AreStepsFor plan fact.chain.start fact.chain.steps steps → Says (part.Fact n) (equation_line name (chain_source fact.chain.start steps) (equation_of fact))
    says_conclusion : {chain : Chain} {goal : ℕ} {e : Equation} {steps : List LineStep} → a ≡ aim.Goal chain goal → slice_get encoded.goals goal ≡ Some e → AreStepsFor plan chain.start chain.steps steps → Says part.Conclusion (equation_line name (chain_source chain.start steps) e)
    refutes_denied : {chain : Chain} {goal c denial proved : ℕ} → a ≡ aim.Goal chain goal → slice_get encoded.goal_clauses goal ≡ Some (Some c) → slice_get plan denial ≡ Some (part.Denial c) → slice_get plan proved ≡ Some part.Conclusion → Says part.Refutation (refute_line name (denial ∷ proved ∷ []))
    refutes_encoded : {chain : Chain} {goal proved : ℕ} → a ≡ aim.Goal chain goal → slice_get encoded.goal_clauses goal ≡ Some None → slice_get plan proved ≡ Some part.Conclusion → Says part.Refutation (refute_line name (proved ∷ []))

module _ (problem : Problem) (encoded : Encoded) (facts : List Fact) (a : Aim) (plan : List Part) where
  -- the line says what its part does, with its variables numbered by first occurrence
  pub record IsWritten (k : ℕ) (p : Part) (line : Line) : Type 0 where
    pub said : Line
    pub says : Says problem encoded facts a plan (line_name k) p said
    pub line_is : line ≡ renumbered_line said

  -- the lines of these parts, where the first has this number
  abbrev pub AreWritten : ℕ → List Part → List Line → Type 0
  AreWritten k [] [] = Unit {0}
  AreWritten k (p ∷ ps) (line ∷ lines) = IsWritten k p line × AreWritten (k + 1) ps lines
  AreWritten k ps lines = ⊥
