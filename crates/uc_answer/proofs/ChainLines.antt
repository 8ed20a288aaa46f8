-- The lines of a chain of steps.
use Rattle.std.proofs.Common.{ℕ, ◌+◌, ◌≡◌, ◌<◌, ◌≤◌, List, [], ◌∷◌, ◌++◌, length, get_or, drop, sym, ap, ◌∙◌, subst, append_assoc}
use Rattle.std.proofs.lemmas.List.{drop_more, drop_all, append-nil}
use Rattle.uc_term.specs.Tree.{Tree, nodes}
use Rattle.uc_term.specs.Table.{Table, IsOf}
use Rattle.uc_fact.specs.declared.chain.Step.{Step}
use Rattle.uc_answer.specs.Lines.{joined}
use Rattle.uc_answer.specs.ChainLines.{IsStepLine, AreChained, no_step, one_step, ArePrintable}
use Rattle.uc_answer.proofs.DirectedLines.{joined_one}

module _ (table : Table) (start : Tree) (all : List Step) where
  -- from this term, behind these lines, the lines of the steps that are left are the lines of all
  abbrev pub Begun : ℕ → Tree → List (List ℕ) → Type 0
  Begun number t lines = (rest : List ℕ) → AreChained table t (drop number all) rest → AreChained table start all (joined lines ++ rest)

  here : (number : ℕ) (step : Step) → number < length all → step ≡ get_or all number step → drop number all ≡ step ∷ drop (number + 1) all
  here number step h at = drop_more all number step h ∙ ap (λ s. s ∷ drop (number + 1) all) (sym at)

  pub one_more : (number : ℕ) (t : Tree) (lines : List (List ℕ)) (step : Step) (line : List ℕ) → number < length all → step ≡ get_or all number step → IsStepLine table t step line → Begun number t lines → Begun (number + 1) step.to (lines ++ line ∷ [])
  one_more number t lines step line h at is begun rest d =
      let next : AreChained table t (drop number all) (line ++ rest) = subst (λ ss. AreChained table t ss (line ++ rest)) (sym (here number step h at)) (subst (λ l. AreChained table t (step ∷ drop (number + 1) all) (l ++ rest)) (sym is.2) (one_step is.0 is.1 d)) in
      let texts : joined (lines ++ line ∷ []) ++ rest ≡ joined lines ++ (line ++ rest) = ap (λ l. l ++ rest) (joined_one lines line) ∙ append_assoc (joined lines) line rest in
      subst (AreChained table start all) (sym texts) (begun (line ++ rest) next)

  pub all_told : (number : ℕ) (t : Tree) (lines : List (List ℕ)) → length all ≤ number → Begun number t lines → AreChained table start all (joined lines)
  all_told number t lines h begun = subst (AreChained table start all) (append-nil (joined lines)) (begun [] (subst (λ ss. AreChained table t ss []) (sym (drop_all number all h)) no_step))

  pub next_printable : (number : ℕ) (t : Tree) (step : Step) → number < length all → step ≡ get_or all number step → ArePrintable table t (drop number all) → (step.position.0 < nodes t) × IsOf table step.to × ArePrintable table step.to (drop (number + 1) all)
  next_printable number t step h at p = subst (ArePrintable table t) (here number step h at) p
