-- Chains of first possible steps.
use Rattle.std.proofs.Common.{◌≡◌, ℕ, zero, suc, ◌+◌, ◌-◌, ◌<◌, ◌≤◌, List, [], ◌∷◌, ◌++◌, length, refl, sym, ap, ◌∙◌, arith, append_assoc, append-nil, subst, slice_get, Some, Result, IfOk}
use Rattle.std.proofs.lemmas.Result.{IfOk-weaker}
use Rattle.std.proofs.lemmas.Option.{slice_get_within}
use Rattle.uc_term.specs.declared.node.Sym.{Sym}
use Rattle.uc_term.specs.Tree.{Tree, nodes}
use Rattle.uc_term.specs.Variables.{Occurs}
use Rattle.uc_fact.specs.declared.chain.Step.{Step}
use Rattle.uc_fact.specs.declared.fact.Stop.{Stop}
use Rattle.uc_fact.specs.declared.fact.Stop.TheVariants.{Full, Steps, Size}
use Rattle.uc_fact.specs.Live.{Live, Rule, equations_of}
use Rattle.uc_fact.specs.Ordered.{OStep, IsIrreducible}
use Rattle.uc_fact.specs.Chains.{Links, last_term}
use Rattle.uc_fact.proofs.NewVariables.{step_none_new}
use Rattle.uc_rewrite.specs.declared.normal.Normal.{Normal}
use Rattle.uc_rewrite.specs.declared.normal.Next.{Next}
use Rattle.uc_rewrite.specs.Normalising.{FirstStep, Normalises, is_full, is_spent, is_large, goes_on, IsNormalOf, step_by}
use Rattle.uc_rewrite.specs.declared.walk.Open.{Open}
use Rattle.uc_rewrite.specs.Walking.{Steps as StepsOn, Walks, IsLarge}
use Rattle.uc_rewrite.specs.Comparing.{VariablesAre}
use Rattle.uc_rewrite.specs.Ends.{IsNext, IsLast, normal_by}
use Rattle.uc_rewrite.proofs.Unique.{step_falls}

pub end_pushed : (t : Tree) (steps : List Step) (step : Step) → last_term t (steps ++ step ∷ []) ≡ step.to
end_pushed t [] step = refl
end_pushed t (s ∷ steps) step = end_pushed s.to steps step

module _ (Greater : Tree → Tree → Type 0) (least : Sym) (live : List Live) (limit : ℕ) (t : Tree) where
  -- whatever normalising comes to after the steps that are made, the whole comes to
  abbrev pub Made : List Step → ℕ → Type 0
  Made made left = (rest : List Step) (end : Tree) (stop : Stop) → Normalises Greater least live left (last_term t made) rest end stop → Normalises Greater least live limit t (made ++ rest) end stop

  pub none_made : Made [] limit
  none_made rest end stop n = n

  pub one_more : (made : List Step) (k left : ℕ) (at : ℕ) (rule : Rule) (v : Tree) → left ≡ k + 1 → FirstStep Greater least live (last_term t made) at rule v → nodes v ≤ 4096 → Made made left → Made (made ++ step_by rule at v ∷ []) k
  one_more made k left at rule v e f h m rest end stop n =
      let n' : Normalises Greater least live k v rest end stop = subst (λ u. Normalises Greater least live k u rest end stop) (end_pushed t made (step_by rule at v)) n in
      let all : Normalises Greater least live limit t (made ++ (step_by rule at v ∷ rest)) end stop = m (step_by rule at v ∷ rest) end stop (subst (λ l. Normalises Greater least live l (last_term t made) (step_by rule at v ∷ rest) end stop) (let s : suc k ≡ left = omega (arith, e) in s) (goes_on f h n')) in
      subst (λ l. Normalises Greater least live limit t l end stop) (sym (append_assoc made (step_by rule at v ∷ []) rest)) all

  pub ends : (made : List Step) (left : ℕ) (stop : Stop) → Made made left → Normalises Greater least live left (last_term t made) [] (last_term t made) stop → IsNormalOf Greater least live limit t (normal_by t made stop)
  ends made left stop m n = record {
    start = refl;
    normalises = subst (λ l. Normalises Greater least live limit t l (last_term t made) stop) (append-nil made) (m [] (last_term t made) stop n);
  }

  -- a step more
  pub made_more : (made : List Step) (left k : ℕ) (step : Step) (opened : List Open) (place : ℕ) → left ≡ k + 1 → Made made left → StepsOn Greater least live (last_term t made) step opened place → Made (made ++ step ∷ []) k
  made_more made left k step opened place e m s = subst (λ x. Made (made ++ x ∷ []) k) (sym s.step_is) (one_more made k left s.at s.rule s.v e s.first s.small m)

  pub walks_on : (made : List Step) (step : Step) (opened : List Open) (place : ℕ) → StepsOn Greater least live (last_term t made) step opened place → Walks Greater least live (last_term t (made ++ step ∷ [])) opened place
  walks_on made step opened place s = subst (λ u. Walks Greater least live u opened place) (sym (end_pushed t made step ∙ ap (λ x. x.to) s.step_is)) s.walks

  pub variables_on : (P : ℕ → Type 0) (made : List Step) (step : Step) (opened : List Open) (place : ℕ) → StepsOn Greater least live (last_term t made) step opened place → VariablesAre P (last_term t made) → VariablesAre P (last_term t (made ++ step ∷ []))
  variables_on P made step opened place s known x o = known x (step_none_new Greater least (equations_of live) (last_term t made) s.v (step_falls Greater least live (last_term t made) s.at s.rule s.v s.first) x (subst (Occurs x) (end_pushed t made step ∙ ap (λ x. x.to) s.step_is) o))

  pub ends_full : (made : List Step) (left : ℕ) → Made made left → IsIrreducible Greater least (equations_of live) (last_term t made) → IsNormalOf Greater least live limit t (normal_by t made Full)
  ends_full made left m n = ends made left Full m (is_full n)

  pub ends_large : (made : List Step) (left : ℕ) → 0 < left → Made made left → IsLarge Greater least live (last_term t made) → IsNormalOf Greater least live limit t (normal_by t made Size)
  ends_large made zero h m n = absurd (omega arith)
  ends_large made (suc left) h m n = ends made (suc left) Size m (is_large n.first n.large)

  pub ends_last : (made : List Step) (left : ℕ) (stop : Stop) → left ≡ 0 → Made made left → IsLast Greater least live (last_term t made) stop → IsNormalOf Greater least live limit t (normal_by t made stop)
  ends_last made left Full e m n = ends made left Full m (is_full n)
  ends_last made zero Steps e m n = ends made 0 Steps m (is_spent n.first)
  ends_last made (suc left) Steps e m n = absurd (omega arith)
  ends_last made left Size e m n = elim n [ ]

-- what comes next from an equal term
pub next_of : (Greater : Tree → Tree → Type 0) (least : Sym) (live : List Live) (u w : Tree) (opened : List Open) (place : ℕ) (a b : Next) → u ≡ w → a ≡ b → IsNext Greater least live u opened place a → IsNext Greater least live w opened place b
next_of Greater least live u w opened place a b e f n = subst (λ z. IsNext Greater least live w opened place z) f (subst (λ z. IsNext Greater least live z opened place a) e n)

module _ (Greater : Tree → Tree → Type 0) (least : Sym) (live : List Live) where
  pub linked : (limit : ℕ) (t : Tree) (steps : List Step) (end : Tree) (stop : Stop) → Normalises Greater least live limit t steps end stop → Links (OStep Greater least (equations_of live)) t steps end
  linked limit t _ _ _ (is_full n) = refl
  linked _ t _ _ _ (is_spent f) = refl
  linked _ t _ _ _ (is_large f h) = refl
  linked (suc limit) t _ end stop (goes_on {v = v} {place = p} {rule = r} {steps = rest} f h n) = (step_falls Greater least live t p r v f, linked limit v rest end stop n)

  pub end_irreducible : (limit : ℕ) (t : Tree) (steps : List Step) (end : Tree) (stop : Stop) → Normalises Greater least live limit t steps end stop → stop ≡ Full → IsIrreducible Greater least (equations_of live) end
  end_irreducible limit t _ _ _ (is_full n) e = n
  end_irreducible _ t _ _ _ (is_spent f) e = absurd cc
  end_irreducible _ t _ _ _ (is_large f h) e = absurd cc
  end_irreducible (suc limit) t _ end stop (goes_on {v = v} {place = p} {rule = r} {steps = rest} f h n) e = end_irreducible limit v rest end stop n e

ends_at : (start : Tree) (steps : List Step) (n : ℕ) (step : Step) → n + 1 ≡ length steps → slice_get steps n ≡ Some step → step.to ≡ last_term start steps
ends_at start [] n step h e = absurd cc
ends_at start (s ∷ []) zero step h e = (let same : s ≡ step = cc in ap (λ x. x.to) (sym same))
ends_at start (s ∷ r ∷ ss) zero step h e = absurd (omega arith)
ends_at start (s ∷ ss) (suc n) step h e = ends_at s.to ss n step (omega arith) e

pub last_is_end : (start : Tree) (steps : List Step) (step : Step) → Some step ≡ slice_get steps (length steps - 1) → step.to ≡ last_term start steps
last_is_end start steps step e =
    let inside = slice_get_within steps (length steps - 1) step (sym e) in
    ends_at start steps (length steps - 1) step (omega arith) (sym e)

module _ (Greater : Tree → Tree → Type 0) (least : Sym) (live : List Live) (limit : ℕ) (t : Tree) (normal : Normal) (n : IsNormalOf Greater least live limit t normal) where
  pub steps_linked : Links (OStep Greater least (equations_of live)) t normal.chain.steps normal.term
  steps_linked = linked Greater least live limit t normal.chain.steps normal.term normal.stop n.normalises

  pub full_irreducible : normal.stop ≡ Full → IsIrreducible Greater least (equations_of live) normal.term
  full_irreducible = end_irreducible Greater least live limit t normal.chain.steps normal.term normal.stop n.normalises

pub given : {E : Type 0} (r : Result Normal E) (n : Normal) (P : Normal → Type 0) → IfOk r (λ x. x ≡ n) → P n → IfOk r P
given r n P h p = IfOk-weaker r (λ x. x ≡ n) P (λ x e. subst P (sym e) p) h
