-- Chains of terms, and chains put together: one step, one chain after another, a chain gone back, and one with other variables.
use Rattle.std.specs.Prelude.{ℕ, ◌≡◌, ◌++◌, not, true, List, [], ◌∷◌, map}
use Rattle.uc_term.specs.Tree.{Tree}
use Rattle.uc_term.specs.Variables.{variables, renumbered_by}
use Rattle.uc_term.specs.declared.equation.Equation.{Equation}
use Rattle.uc_fact.specs.declared.chain.By.{By}
use Rattle.uc_fact.specs.declared.chain.Step.{Step}
use Rattle.uc_fact.specs.declared.chain.Chain.{Chain}

-- the steps lead from u to v: each term is related to the one before it
abbrev pub Links : (Tree → Tree → Type 0) → Tree → List Step → Tree → Type 0
Links R u [] v = u ≡ v
Links R u (step ∷ steps) v = R u step.to × Links R step.to steps v

-- the term to which the steps lead: that behind the last of them; the one before them, where there are none
abbrev pub last_term : Tree → List Step → Tree
last_term before [] = before
last_term before (step ∷ steps) = last_term step.to steps

-- the term to which a chain leads
abbrev pub end_of : Chain → Tree
end_of chain = last_term chain.start chain.steps

-- an equation used once, from left to right, at the root
abbrev pub one_step : By → Equation → Chain
one_step by e = record { start = e.left; steps = record { by = by; left_to_right = true; position = record { 0 = 0 }; to = e.right } ∷ [] }

-- one chain after the other
abbrev pub followed_by : Chain → Chain → Chain
followed_by c d = record { start = c.start; steps = c.steps ++ d.steps }

-- a step gone back, to the term before it
abbrev pub step_back : Tree → Step → Step
step_back before step = record { by = step.by; left_to_right = not step.left_to_right; position = step.position; to = before }

-- the steps from a term gone back, the last one first
abbrev pub steps_back : Tree → List Step → List Step
steps_back before [] = []
steps_back before (step ∷ steps) = steps_back step.to steps ++ step_back before step ∷ []

-- the chain from the other end
abbrev pub reversed : Chain → Chain
reversed chain = record { start = end_of chain; steps = steps_back chain.start chain.steps }

abbrev pub variables_of_steps : List Step → List ℕ
variables_of_steps [] = []
variables_of_steps (step ∷ steps) = variables step.to ++ variables_of_steps steps

-- the variables of a chain's terms, in order
abbrev pub variables_of_chain : Chain → List ℕ
variables_of_chain chain = variables chain.start ++ variables_of_steps chain.steps

abbrev pub renumbered_step : List ℕ → Step → Step
renumbered_step names step = record { by = step.by; left_to_right = step.left_to_right; position = step.position; to = renumbered_by names step.to }

-- the chain with its variables numbered by a list of names
abbrev pub renumbered_chain : List ℕ → Chain → Chain
renumbered_chain names chain = record { start = renumbered_by names chain.start; steps = map (renumbered_step names) chain.steps }
