-- The chain between the two sides of a goal whose ends have met, and facts that are there.
use Rattle.std.specs.Prelude.{ℕ, ◌≡◌, ◌<◌, ◌++◌, List, length, slice_get, Some}
use Rattle.std.specs.List.{AllByRecursion}
use Rattle.uc_term.specs.Tree.{Tree}
use Rattle.uc_term.specs.declared.equation.Equation.{Equation}
use Rattle.uc_fact.specs.declared.chain.Chain.{Chain}
use Rattle.uc_fact.specs.declared.fact.Fact.{Fact}
use Rattle.uc_fact.specs.Chains.{steps_back}
use Rattle.uc_rewrite.specs.Replay.{LeadsFrom}
use Rattle.uc_problem.specs.declared.problem.Encoded.{Encoded}

-- the chain of the left side, followed by that of the right side gone back
abbrev pub conclusion_of : Chain → Chain → Chain
conclusion_of left right = record { start = left.start; steps = left.steps ++ steps_back right.start right.steps }

-- the two chains lead from the goal's sides to one term
pub record ProvesGoal (encoded : Encoded) (facts : List Fact) (goal : ℕ) (left right : Chain) : Type 0 where
  pub equation : Equation
  pub equation_is : slice_get encoded.goals goal ≡ Some equation
  pub meeting : Tree
  pub left_leads : LeadsFrom encoded.axioms facts left equation.left meeting
  pub right_leads : LeadsFrom encoded.axioms facts right equation.right meeting

-- each of these is the number of a fact
abbrev pub AreBorn : List Fact → List ℕ → Type 0
AreBorn facts live = AllByRecursion (λ n. n < length facts) live
