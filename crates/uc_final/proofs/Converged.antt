-- Where nothing is missing and no overlap is too large, all overlaps and all axioms are joinable.
use Rattle.std.proofs.Common.{◌≡◌, ℕ, zero, suc, ◌+◌, ◌==◌, List, [], ◌∷◌, ◌++◌, slice_get, Option, Some, None, refl, sym, ap, ◌∙◌, subst, arith, ◌⊎◌, inl, inr}
use Rattle.std.proofs.lemmas.Bool.{cases_Bool, eqb-true}
use Rattle.uc_term.specs.declared.equation.Equation.{Equation}
use Rattle.uc_order.specs.Laws.{Meaning, Laws, HasSym}
use Rattle.uc_order.specs.Members.{Each as EachMember}
use Rattle.uc_fact.specs.declared.chain.Chain.{Chain}
use Rattle.uc_fact.specs.declared.fact.Fact.{Fact}
use Rattle.uc_fact.specs.declared.fact.Overlap.{Overlap}
use Rattle.uc_fact.specs.declared.fact.Origin.{Origin}
use Rattle.uc_fact.specs.declared.fact.Origin.TheVariants.{Axiom, Overlap as OfOverlap}
use Rattle.uc_fact.specs.declared.fact.System.{System}
use Rattle.uc_fact.specs.Ground.{AreOfSignature}
use Rattle.uc_fact.specs.Live.{Live, fact_at, equation_of, equations_of}
use Rattle.uc_rewrite.proofs.Chaining.{linked}
use Rattle.uc_pair.specs.declared.formation.Formation.TheVariants.{Pair as Forms}
use Rattle.uc_pair.specs.declared.formed.Formed.{Formed}
use Rattle.uc_pair.specs.declared.formed.Size.{Size}
use Rattle.uc_pair.specs.declared.formed.Size.TheVariants.{Weight, Same, Large}
use Rattle.uc_pair.specs.Listing.{AreOverlaps}
use Rattle.uc_pair.specs.Pairs.{IsPairOf}
use Rattle.uc_ground.specs.Joining.{IsJoined}
use Rattle.uc_ac.proofs.Ends.{ends_join as answer_joins}
use Rattle.uc_shelf.specs.declared.entry.Entry.{Entry}
use Rattle.uc_shelf.specs.Entries.{born, live}
use Rattle.uc_shelf.specs.Rising.{live_rise}
use Rattle.uc_decide.specs.Converging.{AreJoinable, IsJoinableOverlap, AreJoinableOverlaps, AreJoinableAxioms}
use Rattle.uc_decide.proofs.Ordered.{ends_join}
use Rattle.uc_decide.proofs.Pairs.{pair_joins}
use Rattle.uc_machine.specs.declared.task.Missing.{Missing}
use Rattle.uc_machine.specs.declared.task.Outcome.{Outcome}
use Rattle.uc_machine.specs.declared.task.Outcome.TheVariants.{Convergent}
use Rattle.uc_machine.specs.Lists.{Each}
use Rattle.uc_machine.specs.State.{State}
use Rattle.uc_machine.specs.Results.{Trial, IsTrial, IsPair, of_axiom, of_overlap, of_dead}
use Rattle.uc_machine.specs.Finals.{OverlapsOf, no_inner, next_inner, AllOverlaps, no_outer, next_outer, axioms_from, origin_if, small_ones, large_or, first_large, Tests, all_tested, is_joined, is_missing, IsFinal, some_missing, some_large, some_stuck, all_converges}
use Rattle.uc_final.specs.Converged.{IsConverged}
use Rattle.uc_final.proofs.Overlapped.{IsOfFacts, of_facts, IsBorn, live_born}

-- LISTS

pub each_front : {A : Type 0} (P : A → Type 0) (xs ys : List A) → Each P (xs ++ ys) → Each P xs
each_front P [] ys h = tt
each_front P (x ∷ xs) ys h = (h.0, each_front P xs ys h.1)

pub each_behind : {A : Type 0} (P : A → Type 0) (xs ys : List A) → Each P (xs ++ ys) → Each P ys
each_behind P [] ys h = h
each_behind P (x ∷ xs) ys h = each_behind P xs ys h.1

both_members : {A : Type 0} (P Q R : A → Type 0) → ((x : A) → P x → Q x → R x) → (xs : List A) → Each P xs → Each Q xs → EachMember R xs
both_members P Q R f [] p q = tt
both_members P Q R f (x ∷ xs) p q = (f x p.0 q.0, both_members P Q R f xs p.1 q.1)

split_at : (j : Live) (js : List Live) (k : ℕ) (e : Equation) → fact_at (j ∷ js) k ≡ Some e → ((j.number ≡ k) × (j.equation ≡ e)) ⊎ (fact_at js k ≡ Some e)
split_at j js k e h = elim (cases_Bool (j.number == k)) as (λ _. ((j.number ≡ k) × (j.equation ≡ e)) ⊎ (fact_at js k ≡ Some e)) [
  | inl b ↦ (let s : Some j.equation ≡ Some e = rw b at h in inl (eqb-true j.number k b, cc))
  | inr b ↦ inr (rw b at h)
]

-- a fact that lives is born
record IsFact (all : List Fact) (i : ℕ) (e : Equation) : Type 0 where
  fact : Fact
  at : slice_get all i ≡ Some fact
  is : equation_of fact ≡ e

fact_born : (all : List Fact) (js : List Live) (i : ℕ) (e : Equation) → Each (IsBorn all) js → fact_at js i ≡ Some e → IsFact all i e
fact_born all [] i e b h = absurd cc
fact_born all (j ∷ js) i e b h = elim (split_at j js i e h) as (λ _. IsFact all i e) [
  | inl s ↦ record { fact = b.0.fact; at = subst (λ k. slice_get all k ≡ Some b.0.fact) s.0 b.0.at; is = b.0.is ∙ s.1 }
  | inr s ↦ fact_born all js i e b.1 s
]

-- the two facts of an overlap's pair
record OfFacts (es : List Entry) (o : Overlap) (e : Equation) (c : Chain) : Type 0 where
  outer : Fact
  inner : Fact
  outer_is : slice_get (born es) o.outer ≡ Some outer
  inner_is : slice_get (born es) o.inner ≡ Some inner
  pair_is : IsPairOf (equation_of outer) (equation_of inner) o (Forms e.left e.right c)

module _ (axioms : List Equation) (es : List Entry) where
  pair_of_axiom : (o : Origin) (k : ℕ) (e : Equation) (c : Chain) → o ≡ Axiom k → IsPair axioms es o e c → slice_get axioms k ≡ Some e
  pair_of_axiom _ k e _ q (of_axiom {k = i} h) = (let same : i ≡ k = cc in subst (λ x. slice_get axioms x ≡ Some e) same h)
  pair_of_axiom _ k _ c q (of_overlap ha hb p) = absurd cc
  pair_of_axiom _ k _ _ q (of_dead h) = absurd cc

  pair_of_facts : (o : Origin) (overlap : Overlap) (e : Equation) (c : Chain) → o ≡ OfOverlap overlap → IsPair axioms es o e c → OfFacts es overlap e c
  pair_of_facts _ overlap e _ q (of_axiom h) = absurd cc
  pair_of_facts _ overlap _ c q (of_overlap {o = x} {a = a} {b = b} {l = l} {r = r} ha hb p) =
      let same : x ≡ overlap = cc in
      let pair : Equation = record { left = l; right = r } in
      subst (λ y. OfFacts es y pair c) same (record { outer = a; inner = b; outer_is = ha; inner_is = hb; pair_is = p })
  pair_of_facts _ overlap _ _ q (of_dead h) = absurd cc

module _ (m : Meaning) (laws : Laws m) (axioms : List Equation) (es : List Entry) (over : AreOfSignature (HasSym m) m.arity (equations_of (live es))) where
  -- a pair of this origin is joinable
  record Joins (o : Origin) : Type 0 where
    trial : Trial
    pair_is : IsPair axioms es o trial.equation trial.chain
    joinable : AreJoinable m (live es) trial.equation.left trial.equation.right

  trial_joins : (o : Origin) (t : Trial) → IsTrial m axioms es o t → IsJoined t.answer → Joins o
  trial_joins o t i j = record {
    trial = t;
    pair_is = i.pair_is;
    joinable = ends_join m laws (equations_of (live es)) over t.equation.left t.equation.right t.left.chain.steps t.right.chain.steps t.left.term t.right.term
        (linked m.greater m.least (live es) 4096 t.equation.left t.left.chain.steps t.left.term t.left.stop i.left_is.normalises)
        (linked m.greater m.least (live es) 4096 t.equation.right t.right.chain.steps t.right.term t.right.stop i.right_is.normalises)
        (answer_joins (live es) m laws t.left.term t.right.term over t.answer i.answer_is j);
  }

  all_join : (os : List Origin) (ms : List Missing) → ms ≡ [] → Tests m axioms es os ms → Each Joins os
  all_join _ _ e all_tested = tt
  all_join _ ms e (is_joined {o = o} {os = os} t i j rest) = (trial_joins o t i j, all_join os ms e rest)
  all_join _ _ e (is_missing t i n g rest) = absurd cc

  -- THE AXIOMS

  axiom_at : (n : ℕ) (xs : List Equation) (k : ℕ) (e : Equation) → slice_get xs k ≡ Some e → Each Joins (axioms_from n xs) → Joins (Axiom (n + k))
  axiom_at n [] k e h all = absurd cc
  axiom_at n (x ∷ xs) zero e h all = (let same : n ≡ n + 0 = omega arith in subst (λ z. Joins (Axiom z)) same all.0)
  axiom_at n (x ∷ xs) (suc k) e h all = (let same : n + 1 + k ≡ n + suc k = omega arith in subst (λ z. Joins (Axiom z)) same (axiom_at (n + 1) xs k e h all.1))

  axioms_join : Each Joins (axioms_from 0 axioms) → AreJoinableAxioms m (live es) axioms
  axioms_join all k e h =
      let same : 0 + k ≡ k = omega arith in
      let j : Joins (Axiom k) = subst (λ z. Joins (Axiom z)) same (axiom_at 0 axioms k e h all) in
      let at : slice_get axioms k ≡ Some j.trial.equation = pair_of_axiom axioms es (Axiom k) k j.trial.equation j.trial.chain refl j.pair_is in
      let is : j.trial.equation ≡ e = cc in
      subst (λ (x : Equation). AreJoinable m (live es) x.left x.right) is j.joinable

  -- THE OVERLAPS

  abbrev FormedJoins : Formed → Type 0
  FormedJoins g = Joins (OfOverlap g.overlap)

  record Small (o : Overlap) (rest : Option Overlap) (os : List Origin) : Type 0 where
    here : Joins (OfOverlap o)
    later : rest ≡ None
    others : Each Joins os

  small_joins : (size : Size) (o : Overlap) (rest : Option Overlap) (os : List Origin) → large_or size o rest ≡ None → Each Joins (origin_if size o ++ os) → Small o rest os
  small_joins (Weight n) o rest os e all = record { here = all.0; later = e; others = all.1 }
  small_joins Same o rest os e all = record { here = all.0; later = e; others = all.1 }
  small_joins Large o rest os e all = absurd cc

  formed_join : (fs : List Formed) → first_large fs ≡ None → Each Joins (small_ones fs) → Each FormedJoins fs
  formed_join [] e all = tt
  formed_join (f ∷ fs) e all =
      let s = small_joins f.size f.overlap (first_large fs) (small_ones fs) e all in
      (s.here, formed_join fs s.later s.others)

  -- of one outer fact
  record Outer (inners : List Live) (i : ℕ) (a : Equation) : Type 0 where
    list : List Formed
    are : OverlapsOf m (let l : Live = record { number = i; equation = a } in l) inners list
    join : Each FormedJoins list

  outer_at : (inners js : List Live) (fs : List Formed) (i : ℕ) (a : Equation) → fact_at js i ≡ Some a → AllOverlaps m inners js fs → Each FormedJoins fs → Outer inners i a
  outer_at inners _ _ i a h no_outer all = absurd cc
  outer_at inners _ _ i a h (next_outer {outer = j} {outers = js} {fs = fs} {others = others} are rest) all = elim (split_at j js i a h) as (λ _. Outer inners i a) [
    | inl s ↦ subst (λ k. Outer inners k a) s.0 (subst (λ e. Outer inners j.number e) s.1 (record { list = fs; are = are; join = each_front FormedJoins fs others all }))
    | inr s ↦ outer_at inners js others i a s rest (each_behind FormedJoins fs others all)
  ]

  -- of two facts
  record Two (i : ℕ) (a : Equation) (j : ℕ) (b : Equation) : Type 0 where
    list : List Formed
    are : AreOverlaps m.greater i a j b list
    join : Each FormedJoins list

  inner_at : (i : ℕ) (a : Equation) (outer : Live) (js : List Live) (fs : List Formed) (j : ℕ) (b : Equation) → outer ≡ record { number = i; equation = a } → fact_at js j ≡ Some b → OverlapsOf m outer js fs → Each FormedJoins fs → Two i a j b
  inner_at i a outer _ _ j b q h no_inner all = absurd cc
  inner_at i a outer _ _ j b q h (next_inner {inner = x} {inners = xs} {fs = fs} {others = others} are rest) all = elim (split_at x xs j b h) as (λ _. Two i a j b) [
    | inl s ↦ (
        let here : AreOverlaps m.greater i a x.number x.equation fs = subst (λ (y : Live). AreOverlaps m.greater y.number y.equation x.number x.equation fs) q are in
        subst (λ k. Two i a k b) s.0 (subst (λ e. Two i a x.number e) s.1 (record { list = fs; are = here; join = each_front FormedJoins fs others all })))
    | inr s ↦ inner_at i a outer xs others j b q s rest (each_behind FormedJoins fs others all)
  ]

  overlap_joins : (i : ℕ) (a : Equation) (j : ℕ) (b : Equation) → IsFact (born es) i a → IsFact (born es) j b → (g : Formed) → IsOfFacts i j g → FormedJoins g → IsJoinableOverlap m (live es) a b g.overlap
  overlap_joins i a j b x y g of_them join =
      let p = pair_of_facts axioms es (OfOverlap g.overlap) g.overlap join.trial.equation join.trial.chain refl join.pair_is in
      let outer : slice_get (born es) i ≡ Some p.outer = subst (λ k. slice_get (born es) k ≡ Some p.outer) of_them.outer_is p.outer_is in
      let inner : slice_get (born es) j ≡ Some p.inner = subst (λ k. slice_get (born es) k ≡ Some p.inner) of_them.inner_is p.inner_is in
      let same_outer : p.outer ≡ x.fact = some_same p.outer x.fact (sym outer ∙ x.at) in
      let same_inner : p.inner ≡ y.fact = some_same p.inner y.fact (sym inner ∙ y.at) in
      let is_a : equation_of p.outer ≡ a = ap equation_of same_outer ∙ x.is in
      let is_b : equation_of p.inner ≡ b = ap equation_of same_inner ∙ y.is in
      let k = pair_joins m (live es) (equation_of p.outer) (equation_of p.inner) g.overlap join.trial.equation.left join.trial.equation.right join.trial.chain p.pair_is join.joinable in
      subst (λ e. IsJoinableOverlap m (live es) a e g.overlap) is_b (subst (λ e. IsJoinableOverlap m (live es) e (equation_of p.inner) g.overlap) is_a k)
    where
      some_same : (f h : Fact) → Some f ≡ Some h → f ≡ h
      some_same f h e = cc

  overlaps_join : (fs : List Formed) → AllOverlaps m (live es) (live es) fs → Each FormedJoins fs → AreJoinableOverlaps m (live es)
  overlaps_join fs all join i j a b hi hj =
      let o = outer_at (live es) (live es) fs i a hi all join in
      let two = inner_at i a (record { number = i; equation = a }) (live es) o.list j b refl hj o.are o.join in
      record {
        list = two.list;
        are_overlaps = two.are;
        are_joinable = both_members (IsOfFacts i j) FormedJoins (λ (g : Formed). IsJoinableOverlap m (live es) a b g.overlap) (overlap_joins i a j b (fact_born (born es) (live es) i a (live_born es) hi) (fact_born (born es) (live es) j b (live_born es) hj)) two.list (of_facts m i a j b two.list two.are) two.join;
      }

  pub both_join : (fs : List Formed) → AllOverlaps m (live es) (live es) fs → Tests m axioms es (axioms_from 0 axioms ++ small_ones fs) [] → first_large fs ≡ None → AreJoinableOverlaps m (live es) × AreJoinableAxioms m (live es) axioms
  both_join fs all tests small =
      let every = all_join (axioms_from 0 axioms ++ small_ones fs) [] refl tests in (
        overlaps_join fs all (formed_join fs small (each_behind Joins (axioms_from 0 axioms) (small_ones fs) every)),
        axioms_join (each_front Joins (axioms_from 0 axioms) (small_ones fs) every),
      )

convergent_same : (x y : System) → Convergent x ≡ Convergent y → x ≡ y
convergent_same x y e = cc

-- the system has the facts that live
pub facts_are : (m : Meaning) (axioms : List Equation) (s : State) (outcome : Outcome) (system : System) → outcome ≡ Convergent system → IsFinal m axioms s outcome → system.facts ≡ equations_of (live s.entries)
facts_are m axioms s _ system e (some_missing all tests ne) = absurd cc
facts_are m axioms s _ system e (some_large all tests h) = absurd cc
facts_are m axioms s _ system e (some_stuck g all tests h k) = absurd cc
facts_are m axioms s _ system e (all_converges all tests h k) = (let x : System = record { facts = equations_of (live s.entries) } in sym (ap (λ (y : System). y.facts) (convergent_same x system e)))

pub converged : (m : Meaning) (laws : Laws m) (axioms : List Equation) (s : State) (outcome : Outcome) (system : System) → outcome ≡ Convergent system → IsFinal m axioms s outcome → AreOfSignature (HasSym m) m.arity (equations_of (live s.entries)) → IsConverged m axioms s system
converged m laws axioms s _ system e (some_missing all tests ne) over = absurd cc
converged m laws axioms s _ system e (some_large all tests h) over = absurd cc
converged m laws axioms s _ system e (some_stuck g all tests h k) over = absurd cc
converged m laws axioms s _ system e (all_converges {fs = fs} all tests h k) over =
    let both = both_join m laws axioms s.entries over fs all tests h in
    record {
      facts_are = facts_are m axioms s (Convergent (record { facts = equations_of (live s.entries) })) system e (all_converges all tests h k);
      rising = live_rise s.entries;
      overlaps_join = both.0;
      axioms_join = both.1;
      none_stuck = k;
    }
