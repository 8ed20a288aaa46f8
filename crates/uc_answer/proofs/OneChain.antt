-- A term that is normalised has one list of lines.
use Rattle.std.proofs.Common.{ℕ, ◌≡◌, List, ◌++◌, refl, sym, ap, ap₂, ◌∙◌}
use Rattle.uc_term.specs.Tree.{Tree}
use Rattle.uc_term.specs.Table.{Table}
use Rattle.uc_fact.specs.declared.chain.Step.{Step}
use Rattle.uc_rewrite.specs.declared.normal.Normal.{Normal}
use Rattle.uc_answer.specs.ChainLines.{term_line, step_line, stop_line, AreChained, no_step, one_step, AreNormalLines}
use Rattle.uc_term.proofs.OnePath.{path_once}

module _ (table : Table) where
  pub chained_once : {t : Tree} {steps : List Step} {a b : List ℕ} → AreChained table t steps a → AreChained table t steps b → a ≡ b
  chained_once no_step no_step = refl
  chained_once {t} (one_step {step = step} path p xs) (one_step other q ys) = ap₂ (λ r lines. step_line table r step ++ lines) (path_once t path other step.position.0 p q) (chained_once xs ys)

  pub lines_once : (normal : Normal) {a b : List ℕ} → AreNormalLines table normal a → AreNormalLines table normal b → a ≡ b
  lines_once normal x y = x.2 ∙ ap (λ lines. term_line table normal.chain.start ++ lines ++ stop_line normal.stop) (chained_once x.1 y.1) ∙ sym y.2
