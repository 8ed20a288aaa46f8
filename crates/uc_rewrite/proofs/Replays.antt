-- Steps of a chain, one after another.
use Rattle.std.proofs.Common.{◌≡◌, ℕ, zero, suc, ◌+◌, ◌<◌, ◌≤◌, List, [], ◌∷◌, length, drop, get_or, refl, sym, ap, ◌∙◌, subst, arith}
use Rattle.std.proofs.lemmas.List.{drop_more}
use Rattle.uc_term.specs.declared.equation.Equation.{Equation}
use Rattle.uc_term.specs.Tree.{Tree}
use Rattle.uc_fact.specs.declared.chain.Step.{Step}
use Rattle.uc_fact.specs.declared.fact.Fact.{Fact}
use Rattle.uc_fact.specs.Chains.{last_term}
use Rattle.uc_rewrite.specs.Replay.{IsReplacement, AreReplacements}

module _ (axioms : List Equation) (facts : List Fact) where
  -- the steps from a term on are replacements exactly where the rest from another one on are, and they lead to the same term
  pub record Reached (start : Tree) (steps : List Step) (before : Tree) (rest : List Step) : Type 0 where
    pub forth : AreReplacements axioms facts start steps → AreReplacements axioms facts before rest
    pub back : AreReplacements axioms facts before rest → AreReplacements axioms facts start steps
    pub same : last_term start steps ≡ last_term before rest

  pub reached_none : (start : Tree) (steps : List Step) → Reached start steps start steps
  reached_none start steps = record { forth = λ h. h; back = λ h. h; same = refl }

  module _ (start : Tree) (steps : List Step) (before : Tree) (rest behind : List Step) (step : Step) (reached : Reached start steps before rest) (at : rest ≡ step ∷ behind) where
    pub reached_more : IsReplacement axioms facts before step → Reached start steps step.to behind
    reached_more r = record {
      forth = λ h. (subst (AreReplacements axioms facts before) at (reached.forth h)).1;
      back = λ h. reached.back (subst (AreReplacements axioms facts before) (sym at) (r, h));
      same = reached.same ∙ ap (last_term before) at;
    }

    pub stops_here : (IsReplacement axioms facts before step → ⊥) → AreReplacements axioms facts start steps → ⊥
    stops_here n h = n (subst (AreReplacements axioms facts before) at (reached.forth h)).0

  pub reached_all : (start : Tree) (steps : List Step) (before : Tree) (rest : List Step) → Reached start steps before rest → rest ≡ [] → AreReplacements axioms facts start steps × (before ≡ last_term start steps)
  reached_all start steps before rest reached none_left = (reached.back (subst (AreReplacements axioms facts before) (sym none_left) tt), sym (reached.same ∙ ap (last_term before) none_left))

pub step_at : (steps : List Step) (i : ℕ) (step : Step) → i < length steps → step ≡ get_or steps i step → drop i steps ≡ step ∷ drop (i + 1) steps
step_at steps i step h e = drop_more steps i step h ∙ ap (λ s. s ∷ drop (i + 1) steps) (sym e)

pub nothing_left : (steps : List Step) (i : ℕ) → length steps ≤ i → drop i steps ≡ []
nothing_left [] zero h = refl
nothing_left [] (suc i) h = refl
nothing_left (x ∷ l) zero h = absurd (omega arith)
nothing_left (x ∷ l) (suc i) h = nothing_left l i (omega arith)
