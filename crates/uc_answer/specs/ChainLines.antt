-- The lines of a chain of steps.
use Rattle.std.specs.Prelude.{ℕ, ◌≡◌, ◌<◌, List, [], ◌∷◌, ◌++◌, codes, decimal}
use Rattle.uc_term.specs.Tree.{Tree, nodes}
use Rattle.uc_term.specs.Table.{Table, IsOf}
use Rattle.uc_term.specs.Positions.{IsPlaceOf}
use Rattle.uc_clause.specs.Printing.{term_text}
use Rattle.uc_tstp.specs.Printing.{path_text, way_text}
use Rattle.uc_fact.specs.declared.chain.By.{By}
use Rattle.uc_fact.specs.declared.chain.By.TheVariants.{Axiom, Fact}
use Rattle.uc_fact.specs.declared.chain.Step.{Step}
use Rattle.uc_fact.specs.declared.fact.Stop.{Stop}
use Rattle.uc_fact.specs.declared.fact.Stop.TheVariants.{Full, Steps, Size}
use Rattle.uc_rewrite.specs.declared.normal.Normal.{Normal}
use Rattle.uc_answer.specs.Lines.{spaced}

abbrev pub number_of : By → ℕ
number_of (Axiom number) = number
number_of (Fact number) = number

abbrev pub term_line : Table → Tree → List ℕ
term_line table t = term_text table t ++ codes "\n"

-- the line of a step: by which axiom, which way, where, and the term behind it
abbrev pub step_line : Table → List ℕ → Step → List ℕ
step_line table path step = decimal (number_of step.by) ++ spaced (way_text step.left_to_right) ++ spaced (path_text path) ++ spaced (term_line table step.to)

-- the lines of the steps that lead on from a term
pub data AreChained (table : Table) : Tree → List Step → List ℕ → Type 0 where
  no_step : {t : Tree} → AreChained table t [] []
  one_step : {t : Tree} {step : Step} {steps : List Step} {lines : List ℕ} (path : List ℕ) → IsPlaceOf t path step.position.0 → AreChained table step.to steps lines → AreChained table t (step ∷ steps) (step_line table path step ++ lines)

-- each step is made inside the term before it, and the terms are over the table
abbrev pub ArePrintable : Table → Tree → List Step → Type 0
ArePrintable table t [] = Unit {0}
ArePrintable table t (step ∷ steps) = (step.position.0 < nodes t) × IsOf table step.to × ArePrintable table step.to steps

-- the line of a step from a term
abbrev pub IsStepLine : Table → Tree → Step → List ℕ → Type 0
IsStepLine table t step line = (path : List ℕ) × IsPlaceOf t path step.position.0 × (line ≡ step_line table path step)

-- the line that tells why there are no more steps
abbrev pub stop_line : Stop → List ℕ
stop_line Full = codes "normal\n"
stop_line Steps = codes "stopped steps\n"
stop_line Size = codes "stopped size\n"

abbrev pub stop_status : Stop → ℕ
stop_status Full = 0
stop_status Steps = 2
stop_status Size = 2

-- the lines of a term that is normalised
abbrev pub AreNormalLines : Table → Normal → List ℕ → Type 0
AreNormalLines table normal text = (lines : List ℕ) × AreChained table normal.chain.start normal.chain.steps lines × (text ≡ term_line table normal.chain.start ++ lines ++ stop_line normal.stop)
