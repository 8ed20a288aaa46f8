-- What a limit on steps says.
use Rattle.std.proofs.Common.{ℕ, suc, ◌≤◌, List, length, arith}
use Rattle.uc_term.specs.declared.node.Sym.{Sym}
use Rattle.uc_term.specs.Tree.{Tree}
use Rattle.uc_fact.specs.declared.chain.Step.{Step}
use Rattle.uc_fact.specs.declared.fact.Stop.{Stop}
use Rattle.uc_fact.specs.Live.{Live}
use Rattle.uc_rewrite.specs.declared.normal.Normal.{Normal}
use Rattle.uc_rewrite.specs.Normalising.{Normalises, is_full, is_spent, is_large, goes_on, IsNormalOf}

module _ (Greater : Tree → Tree → Type 0) (least : Sym) (live : List Live) where
  -- no more steps are made than are allowed
  pub steps_within : (limit : ℕ) (t : Tree) (steps : List Step) (end : Tree) (stop : Stop) → Normalises Greater least live limit t steps end stop → length steps ≤ limit
  steps_within limit t _ _ _ (is_full n) = omega arith
  steps_within _ t _ _ _ (is_spent f) = omega arith
  steps_within _ t _ _ _ (is_large f h) = omega arith
  steps_within (suc limit) t _ end stop (goes_on {v = v} {steps = rest} f h n) = let k = steps_within limit v rest end stop n in omega (arith, k)

  pub normal_within : (limit : ℕ) (t : Tree) (normal : Normal) → IsNormalOf Greater least live limit t normal → length normal.chain.steps ≤ limit
  normal_within limit t normal n = steps_within limit t normal.chain.steps normal.term normal.stop n.normalises
