-- A kept fact's front is earlier than its birth, and a side whose stop is Full is irreducible there.
use Rattle.std.proofs.Common.{◌≡◌, ℕ, zero, suc, ◌<◌, ◌≤◌, List, [], ◌∷◌, ◌++◌, length, Bool, true, false, Some, refl, ap, sym, ◌∙◌, arith, inl, inr, subst, take, slice_get}
use Rattle.std.specs.Prelude.{◌⊎◌}
use Rattle.uc_term.specs.Tree.{Tree}
use Rattle.uc_term.specs.declared.equation.Equation.{Equation}
use Rattle.uc_fact.specs.declared.chain.Chain.{Chain}
use Rattle.uc_fact.specs.declared.fact.Fact.{Fact}
use Rattle.uc_fact.specs.declared.fact.Origin.{Origin}
use Rattle.uc_fact.specs.declared.fact.Stop.{Stop}
use Rattle.uc_shelf.specs.declared.entry.Entry.{Entry}
use Rattle.uc_shelf.specs.declared.entry.Entry.TheVariants.{Born, Dies}
use Rattle.uc_machine.specs.declared.task.Job.{Job}
use Rattle.uc_machine.specs.Lists.{Each}
use Rattle.uc_machine.specs.State.{State}
use Rattle.std.proofs.lemmas.List.{take-append-le, length-take-le, length-append}
use Rattle.std.proofs.Math.Seq.{take-length}
use Rattle.uc_term.specs.Variables.{variables, is_among as is_name}
use Rattle.uc_order.specs.Laws.{Meaning, Laws}
use Rattle.uc_order.specs.Members.{In, in_front, in_rest}
use Rattle.uc_fact.specs.declared.chain.Step.{Step}
use Rattle.uc_rewrite.specs.Normalising.{Normalises, is_full, is_spent, is_large, goes_on as makes_step}
use Rattle.uc_shelf.specs.Entries.{live}
use Rattle.uc_machine.specs.declared.task.Finding.{Finding}
use Rattle.uc_machine.specs.declared.task.Finding.TheVariants.{Kept as KeptFact}
use Rattle.uc_machine.specs.declared.task.Missing.{Missing}
use Rattle.uc_machine.specs.declared.task.Outcome.{Outcome}
use Rattle.uc_machine.specs.declared.task.Outcome.TheVariants.{Missing as Lacks}
use Rattle.uc_fact.specs.Chains.{variables_of_chain, reversed}
use Rattle.uc_machine.specs.Results.{Trial, way, names_of, made, IsTrial, GivesFact, left_is_greater, right_is_greater, none_is_greater, IsResult, goal_comes_to, more_comes_to, pair_is_joined, pair_is_kept, fact_is_stale, fact_meets}
use Rattle.uc_machine.specs.Finals.{Tests, all_tested, is_joined, is_missing, IsFinal, some_missing, some_large, some_stuck, all_converges}
use Rattle.uc_machine.proofs.Lists.{Each-front, Each-behind}
use Rattle.uc_machine.specs.Promises.{StandsBy, IsKeptOver, Grew}
use Rattle.uc_runs.proofs.Renumbered.{names_have, renumbered_stands}

module _ (m : Meaning) (laws : Laws m) where
  pub normal_stands : (es : List Entry) (limit : ℕ) (t end : Tree) (steps : List Step) (stop : Stop) → Normalises m.greater m.least (live es) limit t steps end stop → StandsBy m es stop end
  normal_stands es limit t _ _ _ (is_full i) = i
  normal_stands es _ t _ _ _ (is_spent {v = v} {place = place} {rule = rule} f) = record { place = place; rule = rule; v = v; first = f }
  normal_stands es _ t _ _ _ (is_large {v = v} {place = place} {rule = rule} f l) = record { place = place; rule = rule; v = v; first = f; large = l }
  normal_stands es _ t end _ stop (makes_step {limit = limit} {v = v} {steps = steps} f l n) = normal_stands es limit v end steps stop n

  abbrev IsNameOf : Tree → Tree → Chain → ℕ → Type 0
  IsNameOf l r chain x = is_name x (names_of l r chain) ≡ true

  left_names : (l r : Tree) (chain : Chain) → Each (IsNameOf l r chain) (variables l)
  left_names l r chain = Each-front (IsNameOf l r chain) (variables l) (variables r ++ variables_of_chain chain) (names_have (variables l ++ (variables r ++ variables_of_chain chain)))

  right_names : (l r : Tree) (chain : Chain) → Each (IsNameOf l r chain) (variables r)
  right_names l r chain =
      let behind = Each-behind (IsNameOf l r chain) (variables l) (variables r ++ variables_of_chain chain) (names_have (variables l ++ (variables r ++ variables_of_chain chain))) in
      Each-front (IsNameOf l r chain) (variables r) (variables_of_chain chain) behind

  made_over : (es : List Entry) (n : ℕ) → n ≤ length es → (oriented : Bool) (origin : Origin) (l r : Tree) (chain : Chain) (a b : Stop)
      → StandsBy m (take n es) a l → StandsBy m (take n es) b r → IsKeptOver m es (made oriented origin n l r chain a b)
  made_over es n low oriented origin l r chain a b f g = record {
    front = low;
    left = renumbered_stands m laws (take n es) (names_of l r chain) a l (left_names l r chain) f;
    right = renumbered_stands m laws (take n es) (names_of l r chain) b r (right_names l r chain) g;
  }

  trial_over : (axioms : List Equation) (es : List Entry) (n : ℕ) → n ≤ length es → (origin : Origin) (t : Trial) (f : Fact) → IsTrial m axioms (take n es) origin t → GivesFact m origin n t f → IsKeptOver m es f
  trial_over axioms es n low origin t _ i (left_is_greater q) = made_over es n low true origin t.left.term t.right.term (way t) t.left.stop t.right.stop (normal_stands (take n es) 4096 t.equation.left t.left.term t.left.chain.steps t.left.stop i.left_is.normalises) (normal_stands (take n es) 4096 t.equation.right t.right.term t.right.chain.steps t.right.stop i.right_is.normalises)
  trial_over axioms es n low origin t _ i (right_is_greater q) = made_over es n low true origin t.right.term t.left.term (reversed (way t)) t.right.stop t.left.stop (normal_stands (take n es) 4096 t.equation.right t.right.term t.right.chain.steps t.right.stop i.right_is.normalises) (normal_stands (take n es) 4096 t.equation.left t.left.term t.left.chain.steps t.left.stop i.left_is.normalises)
  trial_over axioms es n low origin t _ i (none_is_greater p q) = made_over es n low false origin t.left.term t.right.term (way t) t.left.stop t.right.stop (normal_stands (take n es) 4096 t.equation.left t.left.term t.left.chain.steps t.left.stop i.left_is.normalises) (normal_stands (take n es) 4096 t.equation.right t.right.term t.right.chain.steps t.right.stop i.right_is.normalises)

  -- so it is for each fact that is born among these entries
  abbrev pub EarlierIn : List Entry → Type 0
  EarlierIn es = (n : ℕ) (f : Fact) → slice_get es n ≡ Some (Born f) → IsKeptOver m (take n es) f

  entry_push : (es : List Entry) (e : Entry) (n : ℕ) (x : Entry) → slice_get (es ++ e ∷ []) n ≡ Some x → ((n < length es) × (slice_get es n ≡ Some x)) ⊎ ((n ≡ length es) × (e ≡ x))
  entry_push [] e zero x h = inr (refl, (cc))
  entry_push [] e (suc n) x h = absurd (cc)
  entry_push (y ∷ es) e zero x h = inl ((let l : 0 < suc (length es) = omega arith in l), h)
  entry_push (y ∷ es) e (suc n) x h = elim (entry_push es e n x h) [
    | inl a ↦ inl ((let l : n < length es = a.0 in let k : suc n < suc (length es) = omega arith in k), a.1)
    | inr a ↦ inr (ap suc a.0, a.1)
  ]

  earlier_push : (es : List Entry) (e : Entry) → ((f : Fact) → e ≡ Born f → IsKeptOver m es f) → EarlierIn es → EarlierIn (es ++ e ∷ [])
  earlier_push es e new old n f h = elim (entry_push es e n (Born f) h) [
    | inl a ↦ (let l : n < length es = a.0 in let low : n ≤ length es = omega arith in let q : take n (es ++ e ∷ []) ≡ take n es = take-append-le n es (e ∷ []) low in subst (λ z. IsKeptOver m z f) (sym q) (old n f a.1))
    | inr a ↦ (let q : take n (es ++ e ∷ []) ≡ es = ap (λ k. take k (es ++ e ∷ [])) a.0 ∙ take-append-le (length es) es (e ∷ []) (omega arith) ∙ take-length es in subst (λ z. IsKeptOver m z f) (sym q) (new f a.1))
  ]

  pub earlier_born : (es : List Entry) (f : Fact) → IsKeptOver m es f → EarlierIn es → EarlierIn (es ++ Born f ∷ [])
  earlier_born es f k old = earlier_push es (Born f) (λ g e. subst (λ z. IsKeptOver m es z) (let same : f ≡ g = cc in same) k) old

  pub earlier_dies : (es : List Entry) (i k : ℕ) → EarlierIn es → EarlierIn (es ++ Dies i k ∷ [])
  earlier_dies es i k old = earlier_push es (Dies i k) (λ g e. cc) old

  -- what a Join that keeps a fact, and an audit, publish

  kept_pair : (axioms : List Equation) (es : List Entry) (n : ℕ) → n ≤ length es → (j : Job) (f : Fact) (found : Finding) → IsResult m axioms (take n es) j found → found ≡ KeptFact f → IsKeptOver m es f
  kept_pair axioms es n low j f _ (pair_is_kept {origin = origin} {t = t} {f = g} trial apart gives) e =
      let same : g ≡ f = cc in
      let len : length (take n es) ≡ n = length-take-le n es low in
      subst (λ z. IsKeptOver m es z) same (trial_over axioms es n low origin t g trial (subst (λ z. GivesFact m origin z t g) len gives))
  kept_pair axioms es n low j f _ (goal_comes_to a) e = absurd (cc)
  kept_pair axioms es n low j f _ (more_comes_to a) e = absurd (cc)
  kept_pair axioms es n low j f _ (pair_is_joined a b) e = absurd (cc)
  kept_pair axioms es n low j f _ (fact_is_stale a b) e = absurd (cc)
  kept_pair axioms es n low j f _ (fact_meets a b c d) e = absurd (cc)

  pub kept_by_join : (axioms : List Equation) (es : List Entry) (n : ℕ) → n ≤ length es → (j : Job) (f : Fact) → IsResult m axioms (take n es) j (KeptFact f) → IsKeptOver m es f
  kept_by_join axioms es n low j f r = kept_pair axioms es n low j f (KeptFact f) r refl

  missing_over : (axioms : List Equation) (es more : List Entry) (os : List Origin) (ms : List Missing) → Tests m axioms es os ms → (x : Missing) → In ms x → IsKeptOver m (es ++ more) x.fact
  missing_over axioms es more _ _ all_tested x i = elim i [ ]
  missing_over axioms es more _ ms (is_joined {os = os} t a b rest) x i = missing_over axioms es more os ms rest x i
  missing_over axioms es more _ _ (is_missing {o = o} {os = os} {ms = ms} {f = f} t a b g rest) x in_front =
      let low : length es ≤ length (es ++ more) = (let l = length-append es more in omega arith) in
      let q : take (length es) (es ++ more) ≡ es = take-append-le (length es) es more (omega arith) ∙ take-length es in
      trial_over axioms (es ++ more) (length es) low o t f (subst (λ z. IsTrial m axioms z o t) (sym q) a) g
  missing_over axioms es more _ _ (is_missing {o = o} {os = os} {ms = ms} {f = f} t a b g rest) x (in_rest i) = missing_over axioms es more os ms rest x i

  final_over : (axioms : List Equation) (s : State) (more : List Entry) (ms : List Missing) (x : Missing) (outcome : Outcome) → IsFinal m axioms s outcome → outcome ≡ Lacks ms → In ms x → IsKeptOver m (s.entries ++ more) x.fact
  final_over axioms s more ms x _ (some_missing {ms = ns} a tests ne) e i = (let same : ns ≡ ms = cc in missing_over axioms s.entries more _ ns tests x (subst (λ z. In z x) (sym same) i))
  final_over axioms s more ms x _ (some_large a b c) e i = absurd (cc)
  final_over axioms s more ms x _ (some_stuck g a b c d) e i = absurd (cc)
  final_over axioms s more ms x _ (all_converges a b c d) e i = absurd (cc)

  pub kept_by_audit : (axioms : List Equation) (s : State) (es : List Entry) (ms : List Missing) (x : Missing) → Grew s.entries es → IsFinal m axioms s (Lacks ms) → In ms x → IsKeptOver m es x.fact
  kept_by_audit axioms s es ms x g f i = subst (λ z. IsKeptOver m z x.fact) (sym g.is) (final_over axioms s g.more ms x (Lacks ms) f refl i)
