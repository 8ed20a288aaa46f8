-- Chains that replay: put together, gone back, renumbered, of normal forms, of pairs, and of the facts that tasks give.
use Rattle.std.proofs.Common.{◌≡◌, ℕ, zero, suc, ◌+◌, List, [], ◌∷◌, ◌++◌, length, Bool, true, false, Some, refl, ap, sym, ◌∙◌, arith, subst, map, slice_get}
use Rattle.std.specs.Prelude.{not}
use Rattle.std.proofs.lemmas.List.{map-append}
use Rattle.uc_term.specs.declared.equation.Equation.{Equation}
use Rattle.uc_term.specs.declared.equation.Side.{Side}
use Rattle.uc_term.specs.declared.equation.Side.TheVariants.{Left, Right}
use Rattle.uc_term.specs.declared.node.Sym.{Sym}
use Rattle.uc_term.specs.Equations.{side_of, other_side_of}
use Rattle.uc_term.specs.Tree.{Tree, var, app, Trees, none, more}
use Rattle.uc_term.specs.Variables.{place_of, renumbered_by}
use Rattle.uc_term.proofs.Gets.{map-get}
use Rattle.uc_term.proofs.Terms.{apply-var}
use Rattle.uc_order.specs.Laws.{Meaning}
use Rattle.uc_order.specs.Members.{In, in_front, in_rest}
use Rattle.uc_unify.specs.Replacing.{ReplacesAt}
use Rattle.uc_fact.specs.declared.chain.By.{By}
use Rattle.uc_fact.specs.declared.chain.By.TheVariants.{Axiom as ByAxiom, Fact as ByFact}
use Rattle.uc_fact.specs.declared.chain.Chain.{Chain}
use Rattle.uc_fact.specs.declared.chain.Step.{Step}
use Rattle.uc_fact.specs.declared.fact.Fact.{Fact}
use Rattle.uc_fact.specs.declared.fact.Origin.{Origin}
use Rattle.uc_fact.specs.declared.fact.Overlap.{Overlap}
use Rattle.uc_fact.specs.declared.fact.Stop.{Stop}
use Rattle.uc_fact.specs.Chains.{last_term, one_step, followed_by, step_back, steps_back, reversed, renumbered_step, renumbered_chain}
use Rattle.uc_fact.specs.Live.{Live, Rule, rules_of, numbered_from, equation_of}
use Rattle.uc_rewrite.specs.declared.normal.Normal.{Normal}
use Rattle.uc_rewrite.specs.Normalising.{is_left, step_by, FirstRule, this_rule, later_rule, FirstStep, in_arguments, at_the_term, FirstStepAmong, in_this, in_another, Normalises, is_full, is_spent, is_large, goes_on, IsNormalOf}
use Rattle.uc_rewrite.specs.Replay.{named, replaced_side, IsReplacement, AreReplacements, LeadsFrom}
use Rattle.uc_pair.specs.declared.formation.Formation.TheVariants.{Pair as Forms}
use Rattle.uc_pair.specs.Overlapping.{read_from}
use Rattle.uc_pair.specs.Pairs.{Replays as ReplaysBy, is_right, is_left as is_left_side}
use Rattle.uc_pair.proofs.Paired.{replays_of}
use Rattle.uc_shelf.specs.declared.entry.Entry.{Entry}
use Rattle.uc_shelf.specs.Entries.{born, is_dead, equations, live}
use Rattle.uc_machine.specs.declared.task.Finding.{Finding}
use Rattle.uc_machine.specs.declared.task.Finding.TheVariants.{Kept as KeptFact}
use Rattle.uc_machine.specs.declared.task.Job.{Job}
use Rattle.uc_machine.specs.declared.task.Missing.{Missing}
use Rattle.uc_machine.specs.declared.task.Outcome.{Outcome}
use Rattle.uc_machine.specs.declared.task.Outcome.TheVariants.{Missing as Lacks}
use Rattle.uc_machine.specs.Finals.{Tests, all_tested, is_joined, is_missing, IsFinal, some_missing, some_large, some_stuck, all_converges}
use Rattle.uc_machine.specs.Lists.{Each}
use Rattle.uc_machine.specs.Results.{Trial, way, names_of, made, IsPair, of_axiom, of_overlap, of_dead, IsTrial, GivesFact, left_is_greater, right_is_greater, none_is_greater, IsResult, goal_comes_to, more_comes_to, pair_is_joined, pair_is_kept, fact_is_stale, fact_meets}
use Rattle.uc_machine.specs.State.{State}
use Rattle.uc_runs.proofs.AtRest.{last_of_both, normal_end}
use Rattle.uc_machine.proofs.Meetings.{Each-filter}
use Rattle.uc_runs.proofs.Replacing.{at_the_root, goes_back, is_renamed, step_replaces}

-- the side that a step replaces

side_back : (side : Side) → replaced_side (is_left side) ≡ side
side_back Left = refl
side_back Right = refl

by_side : (side : Side) (e : Equation) (u : Tree) (p : ℕ) (v : Tree) → ReplacesAt (side_of side e) (other_side_of side e) u p v → ReplacesAt (side_of (replaced_side (is_left side)) e) (other_side_of (replaced_side (is_left side)) e) u p v
by_side side e u p v r = subst (λ (s : Side). ReplacesAt (side_of s e) (other_side_of s e) u p v) (sym (side_back side)) r

by_other_side : (side : Side) (e : Equation) (u : Tree) (p : ℕ) (v : Tree) → ReplacesAt (other_side_of side e) (side_of side e) u p v → ReplacesAt (side_of (replaced_side (is_right side)) e) (other_side_of (replaced_side (is_right side)) e) u p v
by_other_side Left e u p v r = r
by_other_side Right e u p v r = r

by_inner_side : (side : Side) (e : Equation) (u : Tree) (p : ℕ) (v : Tree) → ReplacesAt (side_of side e) (other_side_of side e) u p v → ReplacesAt (side_of (replaced_side (is_left_side side)) e) (other_side_of (replaced_side (is_left_side side)) e) u p v
by_inner_side Left e u p v r = r
by_inner_side Right e u p v r = r

the_other_way : (b : Bool) (e : Equation) (u : Tree) (p : ℕ) (v : Tree) → ReplacesAt (other_side_of (replaced_side b) e) (side_of (replaced_side b) e) u p v → ReplacesAt (side_of (replaced_side (not b)) e) (other_side_of (replaced_side (not b)) e) u p v
the_other_way true e u p v r = r
the_other_way false e u p v r = r

-- the terms at which chains end

end_back : (t : Tree) (steps : List Step) → last_term (last_term t steps) (steps_back t steps) ≡ t
end_back t [] = refl
end_back t (step ∷ steps) = last_of_both (last_term step.to steps) (steps_back step.to steps) (step_back t step ∷ [])

end_renumbered : (names : List ℕ) (t : Tree) (steps : List Step) → last_term (renumbered_by names t) (map (renumbered_step names) steps) ≡ renumbered_by names (last_term t steps)
end_renumbered names t [] = refl
end_renumbered names t (step ∷ steps) = end_renumbered names step.to steps

module _ (axioms : List Equation) (facts : List Fact) where
  -- steps

  steps_followed : (t : Tree) (xs ys : List Step) → AreReplacements axioms facts t xs → AreReplacements axioms facts (last_term t xs) ys → AreReplacements axioms facts t (xs ++ ys)
  steps_followed t [] ys a b = b
  steps_followed t (x ∷ xs) ys a b = (a.0, steps_followed x.to xs ys a.1 b)

  step_goes_back : (before : Tree) (step : Step) → IsReplacement axioms facts before step → IsReplacement axioms facts step.to (step_back before step)
  step_goes_back before step r = record {
    equation = r.equation;
    equation_is = r.equation_is;
    replaces = the_other_way step.left_to_right r.equation step.to step.position.0 before (goes_back (side_of (replaced_side step.left_to_right) r.equation) (other_side_of (replaced_side step.left_to_right) r.equation) before step.position.0 step.to r.replaces);
  }

  steps_go_back : (t : Tree) (steps : List Step) → AreReplacements axioms facts t steps → AreReplacements axioms facts (last_term t steps) (steps_back t steps)
  steps_go_back t [] a = tt
  steps_go_back t (step ∷ steps) a =
      steps_followed (last_term step.to steps) (steps_back step.to steps) (step_back t step ∷ []) (steps_go_back step.to steps a.1)
      (subst (λ (u : Tree). AreReplacements axioms facts u (step_back t step ∷ [])) (sym (end_back step.to steps)) (step_goes_back t step a.0, tt))

  steps_renumbered : (names : List ℕ) (t : Tree) (steps : List Step) → AreReplacements axioms facts t steps → AreReplacements axioms facts (renumbered_by names t) (map (renumbered_step names) steps)
  steps_renumbered names t [] a = tt
  steps_renumbered names t (step ∷ steps) a = (
    record {
      equation = a.0.equation;
      equation_is = a.0.equation_is;
      replaces = is_renamed (place_of names) (side_of (replaced_side step.left_to_right) a.0.equation) (other_side_of (replaced_side step.left_to_right) a.0.equation) t step.position.0 step.to a.0.replaces;
    },
    steps_renumbered names step.to steps a.1,
  )

  named_further : (later : List Fact) (by : By) (e : Equation) → named axioms facts by ≡ Some e → named axioms (facts ++ later) by ≡ Some e
  named_further later (ByAxiom k) e h = h
  named_further later (ByFact k) e h = ap (λ (es : List Equation). slice_get es k) (map-append equation_of facts later) ∙ kept (map equation_of facts) (map equation_of later) k e h
    where
      kept : (xs ys : List Equation) (n : ℕ) (x : Equation) → slice_get xs n ≡ Some x → slice_get (xs ++ ys) n ≡ Some x
      kept [] ys n x e = absurd (cc)
      kept (y ∷ xs) ys zero x e = e
      kept (y ∷ xs) ys (suc n) x e = kept xs ys n x e

  steps_further : (later : List Fact) (t : Tree) (steps : List Step) → AreReplacements axioms facts t steps → AreReplacements axioms (facts ++ later) t steps
  steps_further later t [] a = tt
  steps_further later t (step ∷ steps) a = (record { equation = a.0.equation; equation_is = named_further later step.by a.0.equation a.0.equation_is; replaces = a.0.replaces }, steps_further later step.to steps a.1)

  -- chains

  pub leads_on : (c d : Chain) (u v w : Tree) → LeadsFrom axioms facts c u v → LeadsFrom axioms facts d v w → LeadsFrom axioms facts (followed_by c d) u w
  leads_on c d u v w a b = record {
    start_is = a.start_is;
    end_is = last_of_both c.start c.steps d.steps ∙ ap (λ (t : Tree). last_term t d.steps) (a.end_is ∙ sym b.start_is) ∙ b.end_is;
    replays = steps_followed c.start c.steps d.steps a.replays (subst (λ (t : Tree). AreReplacements axioms facts t d.steps) (b.start_is ∙ sym a.end_is) b.replays);
  }

  pub leads_back : (c : Chain) (u v : Tree) → LeadsFrom axioms facts c u v → LeadsFrom axioms facts (reversed c) v u
  leads_back c u v a = record { start_is = a.end_is; end_is = end_back c.start c.steps ∙ a.start_is; replays = steps_go_back c.start c.steps a.replays }

  pub leads_renumbered : (names : List ℕ) (c : Chain) (u v : Tree) → LeadsFrom axioms facts c u v → LeadsFrom axioms facts (renumbered_chain names c) (renumbered_by names u) (renumbered_by names v)
  leads_renumbered names c u v a = record {
    start_is = ap (renumbered_by names) a.start_is;
    end_is = end_renumbered names c.start c.steps ∙ ap (renumbered_by names) a.end_is;
    replays = steps_renumbered names c.start c.steps a.replays;
  }

  pub leads_further : (later : List Fact) (c : Chain) (u v : Tree) → LeadsFrom axioms facts c u v → LeadsFrom axioms (facts ++ later) c u v
  leads_further later c u v a = record { start_is = a.start_is; end_is = a.end_is; replays = steps_further later c.start c.steps a.replays }

  leads_by_one : (by : By) (e : Equation) → named axioms facts by ≡ Some e → LeadsFrom axioms facts (one_step by e) e.left e.right
  leads_by_one by e h = record {
    start_is = refl;
    end_is = refl;
    replays = (record { equation = e; equation_is = h; replaces = at_the_root e.left e.right var e.left e.right (apply-var e.left) (apply-var e.right) }, tt);
  }

  -- the rule is a fact's, read from one of its sides
  record IsRuleOf (r : Rule) : Type 0 where
    equation : Equation
    equation_is : slice_get (map equation_of facts) r.number ≡ Some equation
    from_is : r.from ≡ side_of r.side equation
    to_is : r.to ≡ other_side_of r.side equation

  abbrev pub IsNamed : Live → Type 0
  IsNamed f = slice_get (map equation_of facts) f.number ≡ Some f.equation

  module _ (Greater : Tree → Tree → Type 0) (least : Sym) where
    first_rule_of : (u v : Tree) (fs : List Live) (r : Rule) → Each IsNamed fs → FirstRule Greater least u v (rules_of fs) r → IsRuleOf r
    first_rule_of u v [] r h f = elim f [ ]
    first_rule_of u v (f ∷ fs) _ h (this_rule m) = record { equation = f.equation; equation_is = h.0; from_is = refl; to_is = refl }
    first_rule_of u v (f ∷ fs) _ h (later_rule n (this_rule m)) = record { equation = f.equation; equation_is = h.0; from_is = refl; to_is = refl }
    first_rule_of u v (f ∷ fs) r h (later_rule n (later_rule k g)) = first_rule_of u v fs r h.1 g

    mutual
      step_rule_of : (fs : List Live) → Each IsNamed fs → (t : Tree) (p : ℕ) (r : Rule) (v : Tree) → FirstStep Greater least fs t p r v → IsRuleOf r
      step_rule_of fs h (app f us) _ r (app g vs) (in_arguments {place = p} a) = among_rule_of fs h us p r vs a
      step_rule_of fs h t _ r v (at_the_term n f) = first_rule_of t v fs r h f

      among_rule_of : (fs : List Live) → Each IsNamed fs → (us : Trees) (p : ℕ) (r : Rule) (vs : Trees) → FirstStepAmong Greater least fs us p r vs → IsRuleOf r
      among_rule_of fs h none p r vs a = elim a [ ]
      among_rule_of fs h (more u ts) p r none a = elim a [ ]
      among_rule_of fs h (more u ts) p r (more v _) (in_this f) = step_rule_of fs h u p r v f
      among_rule_of fs h (more t us) _ r (more _ vs) (in_another {place = p} n a) = among_rule_of fs h us p r vs a

    first_replaces : (fs : List Live) → Each IsNamed fs → (t : Tree) (p : ℕ) (r : Rule) (v : Tree) → FirstStep Greater least fs t p r v → IsReplacement axioms facts t (step_by r p v)
    first_replaces fs h t p r v f =
        let q = step_rule_of fs h t p r v f in
        record {
          equation = q.equation;
          equation_is = q.equation_is;
          replaces = by_side r.side q.equation t p v (subst (λ (y : Tree). ReplacesAt (side_of r.side q.equation) y t p v) q.to_is (subst (λ (x : Tree). ReplacesAt x r.to t p v) q.from_is (step_replaces Greater least fs t p r v f)));
        }

    normal_replays : (fs : List Live) → Each IsNamed fs → (limit : ℕ) (t end : Tree) (steps : List Step) (stop : Stop) → Normalises Greater least fs limit t steps end stop → AreReplacements axioms facts t steps
    normal_replays fs h limit t _ _ _ (is_full i) = tt
    normal_replays fs h _ t _ _ _ (is_spent f) = tt
    normal_replays fs h _ t _ _ _ (is_large f l) = tt
    normal_replays fs h _ t end _ stop (goes_on {limit = limit} {v = v} {place = p} {rule = r} {steps = steps} f l n) = (first_replaces fs h t p r v f, normal_replays fs h limit v end steps stop n)

-- the facts that live have their numbers

named_from : (all : List Fact) (es : List Equation) (n : ℕ) → ((k : ℕ) → slice_get (map equation_of all) (n + k) ≡ slice_get es k) → Each (IsNamed [] all) (numbered_from n es)
named_from all [] n h = tt
named_from all (e ∷ es) n h = (ap (slice_get (map equation_of all)) (let z : n ≡ n + 0 = omega arith in z) ∙ h 0, named_from all es (n + 1) (λ k. ap (slice_get (map equation_of all)) (let z : n + 1 + k ≡ n + suc k = omega arith in z) ∙ h (suc k)))

pub live_named : (axioms : List Equation) (es : List Entry) → Each (IsNamed axioms (born es)) (live es)
live_named axioms es = Each-filter (IsNamed axioms (born es)) (λ (f : Live). not (is_dead es f.number)) (numbered_from 0 (equations es)) (named_from (born es) (equations es) 0 (λ k. ap (slice_get (equations es)) (let z : 0 + k ≡ k = omega arith in z)))

module _ (m : Meaning) (axioms : List Equation) (es : List Entry) where
  abbrev pub Leads : Chain → Tree → Tree → Type 0
  Leads = LeadsFrom axioms (born es)

  pub normal_leads : (limit : ℕ) (t : Tree) (n : Normal) → IsNormalOf m.greater m.least (live es) limit t n → Leads n.chain t n.term
  normal_leads limit t n i = record {
    start_is = i.start;
    end_is = ap (λ (u : Tree). last_term u n.chain.steps) i.start ∙ normal_end m (live es) limit t n.term n.chain.steps n.stop i.normalises;
    replays = subst (λ (u : Tree). AreReplacements axioms (born es) u n.chain.steps) (sym i.start) (normal_replays axioms (born es) m.greater m.least (live es) (live_named axioms es) limit t n.term n.chain.steps n.stop i.normalises);
  }

  overlap_leads : (o : Overlap) (a b : Fact) (l r : Tree) (chain : Chain) → slice_get (born es) o.outer ≡ Some a → slice_get (born es) o.inner ≡ Some b
      → ReplaysBy (read_from o.outer o.outer_side (equation_of a)) (read_from o.inner o.inner_side (equation_of b)) o l r chain → Leads chain l r
  overlap_leads o a b l r chain x y q = subst (λ (c : Chain). Leads c l r) (sym q.chain_is) (record {
    start_is = refl;
    end_is = refl;
    replays = (
      record { equation = equation_of a; equation_is = map-get equation_of (born es) o.outer a x; replaces = by_other_side o.outer_side (equation_of a) l 0 q.top q.by_outer },
      (record { equation = equation_of b; equation_is = map-get equation_of (born es) o.inner b y; replaces = by_inner_side o.inner_side (equation_of b) q.top q.there r q.by_inner }, tt),
    );
  })

  pair_leads : (origin : Origin) (e : Equation) (chain : Chain) → IsPair axioms es origin e chain → Leads chain e.left e.right
  pair_leads _ e _ (of_axiom {k = k} h) = leads_by_one axioms (born es) (ByAxiom k) e h
  pair_leads _ _ chain (of_overlap {o = o} {a = a} {b = b} {l = l} {r = r} x y p) = overlap_leads o a b l r chain x y (replays_of (equation_of a) (equation_of b) o (Forms l r chain) p)
  pair_leads _ _ _ (of_dead {i = i} {f = f} h) = leads_by_one axioms (born es) (ByFact i) (equation_of f) (map-get equation_of (born es) i f h)

  way_leads : (origin : Origin) (t : Trial) → IsTrial m axioms es origin t → Leads (way t) t.left.term t.right.term
  way_leads origin t i =
      leads_on axioms (born es) (reversed t.left.chain) (followed_by t.chain t.right.chain) t.left.term t.equation.left t.right.term
      (leads_back axioms (born es) t.left.chain t.equation.left t.left.term (normal_leads 4096 t.equation.left t.left i.left_is))
      (leads_on axioms (born es) t.chain t.right.chain t.equation.left t.equation.right t.right.term (pair_leads origin t.equation t.chain i.pair_is) (normal_leads 4096 t.equation.right t.right i.right_is))

  made_leads : (oriented : Bool) (origin : Origin) (front : ℕ) (l r : Tree) (chain : Chain) (a b : Stop) → Leads chain l r → (let f : Fact = made oriented origin front l r chain a b in Leads f.chain f.left f.right)
  made_leads oriented origin front l r chain a b h = leads_renumbered axioms (born es) (names_of l r chain) chain l r h

  fact_leads : (origin : Origin) (front : ℕ) (t : Trial) (f : Fact) → IsTrial m axioms es origin t → GivesFact m origin front t f → Leads f.chain f.left f.right
  fact_leads origin front t _ i (left_is_greater q) = made_leads true origin front t.left.term t.right.term (way t) t.left.stop t.right.stop (way_leads origin t i)
  fact_leads origin front t _ i (right_is_greater q) = made_leads true origin front t.right.term t.left.term (reversed (way t)) t.right.stop t.left.stop (leads_back axioms (born es) (way t) t.left.term t.right.term (way_leads origin t i))
  fact_leads origin front t _ i (none_is_greater p q) = made_leads false origin front t.left.term t.right.term (way t) t.left.stop t.right.stop (way_leads origin t i)

  -- what a Join that keeps a fact publishes, and what an audit publishes

  result_leads : (j : Job) (f : Fact) (found : Finding) → IsResult m axioms es j found → found ≡ KeptFact f → Leads f.chain f.left f.right
  result_leads j f _ (pair_is_kept {origin = origin} {t = t} {f = g} trial apart gives) e = let same : g ≡ f = cc in subst (λ (x : Fact). Leads x.chain x.left x.right) same (fact_leads origin (length es) t g trial gives)
  result_leads j f _ (goal_comes_to a) e = absurd (cc)
  result_leads j f _ (more_comes_to a) e = absurd (cc)
  result_leads j f _ (pair_is_joined a b) e = absurd (cc)
  result_leads j f _ (fact_is_stale a b) e = absurd (cc)
  result_leads j f _ (fact_meets a b c d) e = absurd (cc)

  pub kept_leads : (j : Job) (f : Fact) → IsResult m axioms es j (KeptFact f) → Leads f.chain f.left f.right
  kept_leads j f r = result_leads j f (KeptFact f) r refl

  tested_leads : (os : List Origin) (ms : List Missing) → Tests m axioms es os ms → (x : Missing) → In ms x → Leads x.fact.chain x.fact.left x.fact.right
  tested_leads _ _ all_tested x i = elim i [ ]
  tested_leads _ ms (is_joined {os = os} t a b rest) x i = tested_leads os ms rest x i
  tested_leads _ _ (is_missing {o = o} {os = os} {ms = ms} {f = f} t a b g rest) x in_front = fact_leads o (length es) t f a g
  tested_leads _ _ (is_missing {o = o} {os = os} {ms = ms} {f = f} t a b g rest) x (in_rest i) = tested_leads os ms rest x i

module _ (m : Meaning) (axioms : List Equation) (s : State) where
  final_leads : (ms : List Missing) (outcome : Outcome) → IsFinal m axioms s outcome → outcome ≡ Lacks ms → (x : Missing) → In ms x → LeadsFrom axioms (born s.entries) x.fact.chain x.fact.left x.fact.right
  final_leads ms _ (some_missing {ms = ns} a tests ne) e x i = (let same : ns ≡ ms = cc in tested_leads m axioms s.entries _ ns tests x (subst (λ (z : List Missing). In z x) (sym same) i))
  final_leads ms _ (some_large a b c) e x i = absurd (cc)
  final_leads ms _ (some_stuck g a b c d) e x i = absurd (cc)
  final_leads ms _ (all_converges a b c d) e x i = absurd (cc)

  pub missing_leads : (ms : List Missing) → IsFinal m axioms s (Lacks ms) → (x : Missing) → In ms x → LeadsFrom axioms (born s.entries) x.fact.chain x.fact.left x.fact.right
  missing_leads ms f x i = final_leads ms (Lacks ms) f refl x i
