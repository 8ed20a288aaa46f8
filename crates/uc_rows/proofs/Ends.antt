-- The end of a chain.
use Rattle.std.proofs.Common.{◌≡◌, ℕ, zero, suc, ◌-◌, List, [], ◌∷◌, length, slice_get, Some, ap, arith}
use Rattle.uc_term.specs.Tree.{Tree}
use Rattle.uc_fact.specs.declared.chain.Step.{Step}
use Rattle.uc_fact.specs.Chains.{last_term}

last_at : (start : Tree) (steps : List Step) (n : ℕ) (step : Step) → suc n ≡ length steps → slice_get steps n ≡ Some step → last_term start steps ≡ step.to
last_at start [] n step l e = absurd (cc)
last_at start (x ∷ []) zero step l e = (let same : x ≡ step = cc in ap (λ (s : Step). s.to) same)
last_at start (x ∷ []) (suc n) step l e = absurd (cc)
last_at start (x ∷ (y ∷ ys)) zero step l e = absurd (omega arith)
last_at start (x ∷ (y ∷ ys)) (suc n) step l e = last_at x.to (y ∷ ys) n step (omega arith) e

-- the last step leads to it
pub end-last : (start : Tree) (steps : List Step) (step : Step) → slice_get steps (length steps - 1) ≡ Some step → last_term start steps ≡ step.to
end-last start [] step e = absurd (cc)
end-last start (x ∷ xs) step e = last_at start (x ∷ xs) (length (x ∷ xs) - 1) step (omega arith) e
