-- Where all that is expected is joined, the facts converge: each axiom and each overlap of two facts is joinable.
use Rattle.std.proofs.Common.{◌≡◌, ℕ, zero, suc, ◌+◌, ◌==◌, List, [], ◌∷◌, ◌++◌, slice_get, Some, refl, sym, ◌∙◌, subst, arith, ◌⊎◌, inl, inr}
use Rattle.std.proofs.lemmas.Bool.{cases_Bool, eqb-true}
use Rattle.uc_term.specs.declared.equation.Equation.{Equation}
use Rattle.uc_term.specs.declared.equation.Side.TheVariants.{Left, Right}
use Rattle.uc_term.specs.Tree.{Tree}
use Rattle.uc_order.specs.Members.{Each}
use Rattle.uc_order.specs.Laws.{Meaning, Laws, HasSym}
use Rattle.uc_fact.specs.declared.chain.Chain.{Chain}
use Rattle.uc_fact.specs.Ground.{IsJoinable}
use Rattle.uc_fact.specs.Live.{Live, Rule, fact_at, numbered}
use Rattle.uc_pair.specs.declared.formation.Formation.TheVariants.{Pair}
use Rattle.uc_pair.specs.declared.formed.Formed.{Formed}
use Rattle.uc_pair.specs.Overlapping.{read_from}
use Rattle.uc_pair.specs.Listing.{Lists, no_more_places, at_variable, no_unifier, repeats, goes_nowhere, leads_up, is_listed, no_rules, next_rules, AreOverlaps}
use Rattle.uc_pair.specs.Pairs.{IsPairOf}
use Rattle.uc_decide.specs.Converging.{AreJoinable, IsJoinableOverlap, AreJoinableOverlaps, AreJoinableAxioms}
use Rattle.uc_decide.proofs.Pairs.{pair_joins}
use Rattle.uc_certificate.specs.declared.certificate.Join.{Join}
use Rattle.uc_certify.specs.declared.certified.Certified.{Certified}
use Rattle.uc_certify.specs.declared.certified.Certified.TheVariants.{Yes}
use Rattle.uc_certify.specs.declared.expected.Member.{Member}
use Rattle.uc_certify.specs.declared.expected.Member.TheVariants.{Axiom, Overlap}
use Rattle.uc_certify.specs.Joining.{AreSides, of_axiom, of_overlap, IsRightJoin}
use Rattle.uc_certify.specs.Expecting.{axioms_from, members_of, OverlapsWith, no_inner, next_inner, AllOverlaps, no_outer, next_outer, AreExpected}
use Rattle.uc_certify.specs.Certifying.{AreTested, all_joined, too_many, is_large, is_missing, is_wrong, is_right}
use Rattle.uc_certify.proofs.Joinable.{joins}
use Rattle.uc_certify.proofs.Numbered.{fact_there, equations_numbered}

-- LISTS

each_front : {A : Type 0} (P : A → Type 0) (xs ys : List A) → Each P (xs ++ ys) → Each P xs
each_front P [] ys h = tt
each_front P (x ∷ xs) ys h = (h.0, each_front P xs ys h.1)

each_behind : {A : Type 0} (P : A → Type 0) (xs ys : List A) → Each P (xs ++ ys) → Each P ys
each_behind P [] ys h = h
each_behind P (x ∷ xs) ys h = each_behind P xs ys h.1

each_append : {A : Type 0} (P : A → Type 0) (xs ys : List A) → Each P xs → Each P ys → Each P (xs ++ ys)
each_append P [] ys a b = b
each_append P (x ∷ xs) ys a b = (a.0, each_append P xs ys a.1 b)

each_both : {A : Type 0} (P Q R : A → Type 0) → ((x : A) → P x → Q x → R x) → (xs : List A) → Each P xs → Each Q xs → Each R xs
each_both P Q R f [] p q = tt
each_both P Q R f (x ∷ xs) p q = (f x p.0 q.0, each_both P Q R f xs p.1 q.1)

some_same : (a b : Equation) → Some a ≡ Some b → a ≡ b
some_same a b e = cc

split_at : (j : Live) (js : List Live) (k : ℕ) (e : Equation) → fact_at (j ∷ js) k ≡ Some e → ((j.number ≡ k) × (j.equation ≡ e)) ⊎ (fact_at js k ≡ Some e)
split_at j js k e h = elim (cases_Bool (j.number == k)) as (λ _. ((j.number ≡ k) × (j.equation ≡ e)) ⊎ (fact_at js k ≡ Some e)) [
  | inl b ↦ (let s : Some j.equation ≡ Some e = rw b at h in inl (eqb-true j.number k b, cc))
  | inr b ↦ inr (rw b at h)
]

-- WHAT OVERLAPS COME FROM

-- it is an overlap of these two facts
pub record IsOfFacts (i j : ℕ) (g : Formed) : Type 0 where
  pub outer_is : g.overlap.outer ≡ i
  pub inner_is : g.overlap.inner ≡ j

module _ (Greater : Tree → Tree → Type 0) where
  of_rules : (outer inner : Rule) (place : ℕ) (fs : List Formed) → Lists Greater outer inner place fs → Each (IsOfFacts outer.number inner.number) fs
  of_rules outer inner place _ (no_more_places l) = tt
  of_rules outer inner place fs (at_variable l a b) = of_rules outer inner (place + 1) fs b
  of_rules outer inner place fs (no_unifier l a b) = of_rules outer inner (place + 1) fs b
  of_rules outer inner place fs (repeats l a b) = of_rules outer inner (place + 1) fs b
  of_rules outer inner place fs (goes_nowhere l n a b) = of_rules outer inner (place + 1) fs b
  of_rules outer inner place fs (leads_up o a b) = of_rules outer inner (place + 1) fs b
  of_rules outer inner place _ (is_listed {list = fs} o a b c d) = (record { outer_is = refl; inner_is = refl }, of_rules outer inner (place + 1) fs d)

  pub of_facts : (i : ℕ) (a : Equation) (j : ℕ) (b : Equation) (fs : List Formed) → AreOverlaps Greater i a j b fs → Each (IsOfFacts i j) fs
  of_facts i a j b _ (next_rules {list = w} l1 (next_rules {list = x} l2 (next_rules {list = y} l3 (next_rules {list = z} l4 no_rules)))) =
      each_append (IsOfFacts i j) w (x ++ (y ++ (z ++ []))) (of_rules (read_from i Left a) (read_from j Left b) 0 w l1)
      (each_append (IsOfFacts i j) x (y ++ (z ++ [])) (of_rules (read_from i Left a) (read_from j Right b) 0 x l2)
      (each_append (IsOfFacts i j) y (z ++ []) (of_rules (read_from i Right a) (read_from j Left b) 0 y l3)
      (each_append (IsOfFacts i j) z [] (of_rules (read_from i Right a) (read_from j Right b) 0 z l4) tt)))

module _ (m : Meaning) (laws : Laws m) (facts axioms : List Equation) where
  -- the two terms of the member are joinable
  record IsCovered (member : Member) : Type 0 where
    left : Tree
    right : Tree
    sides : AreSides facts axioms member left right
    joinable : IsJoinable m.greater (HasSym m) m.arity facts left right

  covers : (member : Member) (join : Join) → IsRightJoin m facts axioms member join → IsCovered member
  covers member join r = record { left = r.left; right = r.right; sides = r.sides; joinable = joins m laws facts r.left r.right join r.joins }

  all_covered : {members : List Member} {list : List Join} {n : ℕ} {answer : Certified} → answer ≡ Yes → AreTested m facts axioms members list n answer → Each IsCovered members
  all_covered e all_joined = tt
  all_covered e too_many = absurd cc
  all_covered e (is_large h) = absurd cc
  all_covered e (is_missing h) = absurd cc
  all_covered e (is_wrong h w) = absurd cc
  all_covered e (is_right {member = member} {join = join} h r rest) = (covers member join r, all_covered e rest)

  -- THE AXIOMS

  axiom_at : (n : ℕ) (xs : List Equation) (k : ℕ) (e : Equation) → slice_get xs k ≡ Some e → Each IsCovered (axioms_from n xs) → IsCovered (Axiom (n + k))
  axiom_at n [] k e h all = absurd cc
  axiom_at n (x ∷ xs) zero e h all = (let same : n ≡ n + 0 = omega arith in subst (λ z. IsCovered (Axiom z)) same all.0)
  axiom_at n (x ∷ xs) (suc k) e h all = (let same : n + 1 + k ≡ n + suc k = omega arith in subst (λ z. IsCovered (Axiom z)) same (axiom_at (n + 1) xs k e h all.1))

  axiom_sides : (member : Member) (k : ℕ) (l r : Tree) → member ≡ Axiom k → AreSides facts axioms member l r → (e : Equation) × (slice_get axioms k ≡ Some e) × (l ≡ e.left) × (r ≡ e.right)
  axiom_sides _ k _ _ q (of_axiom {k = i} {e = e} h) = (let same : i ≡ k = cc in (e, subst (λ x. slice_get axioms x ≡ Some e) same h, refl, refl))
  axiom_sides _ k l r q (of_overlap ha hb p) = absurd cc

  axioms_join : Each IsCovered (axioms_from 0 axioms) → AreJoinableAxioms m (numbered facts) axioms
  axioms_join all k e h =
      let same : 0 + k ≡ k = omega arith in
      let c : IsCovered (Axiom k) = subst (λ z. IsCovered (Axiom z)) same (axiom_at 0 axioms k e h all) in
      let s = axiom_sides (Axiom k) k c.left c.right refl c.sides in
      let is : s.0 ≡ e = some_same s.0 e (sym s.1 ∙ h) in
      let j : IsJoinable m.greater (HasSym m) m.arity facts s.0.left s.0.right = rw (← s.2, ← s.3) c.joinable in
      let at_e : IsJoinable m.greater (HasSym m) m.arity facts e.left e.right = subst (λ (x : Equation). IsJoinable m.greater (HasSym m) m.arity facts x.left x.right) is j in
      subst (λ (es : List Equation). IsJoinable m.greater (HasSym m) m.arity es e.left e.right) (sym (equations_numbered 0 facts)) at_e

  -- THE OVERLAPS

  abbrev FormedCovered : Formed → Type 0
  FormedCovered g = IsCovered (Overlap g)

  formed_covered : (fs : List Formed) → Each IsCovered (members_of fs) → Each FormedCovered fs
  formed_covered [] all = tt
  formed_covered (f ∷ fs) all = (all.0, formed_covered fs all.1)

  -- of one outer fact
  record Outer (inners : List Live) (i : ℕ) (a : Equation) : Type 0 where
    list : List Formed
    are : OverlapsWith m.greater (let l : Live = record { number = i; equation = a } in l) inners list
    covered : Each FormedCovered list

  outer_at : (inners js : List Live) (fs : List Formed) (i : ℕ) (a : Equation) → fact_at js i ≡ Some a → AllOverlaps m.greater inners js fs → Each FormedCovered fs → Outer inners i a
  outer_at inners _ _ i a h no_outer all = absurd cc
  outer_at inners _ _ i a h (next_outer {outer = j} {outers = js} {list = fs} {others = others} are rest) all = elim (split_at j js i a h) as (λ _. Outer inners i a) [
    | inl s ↦ subst (λ k. Outer inners k a) s.0 (subst (λ e. Outer inners j.number e) s.1 (record { list = fs; are = are; covered = each_front FormedCovered fs others all }))
    | inr s ↦ outer_at inners js others i a s rest (each_behind FormedCovered fs others all)
  ]

  -- of two facts
  record Two (i : ℕ) (a : Equation) (j : ℕ) (b : Equation) : Type 0 where
    list : List Formed
    are : AreOverlaps m.greater i a j b list
    covered : Each FormedCovered list

  inner_at : (i : ℕ) (a : Equation) (outer : Live) (js : List Live) (fs : List Formed) (j : ℕ) (b : Equation) → outer ≡ record { number = i; equation = a } → fact_at js j ≡ Some b → OverlapsWith m.greater outer js fs → Each FormedCovered fs → Two i a j b
  inner_at i a outer _ _ j b q h no_inner all = absurd cc
  inner_at i a outer _ _ j b q h (next_inner {inner = x} {inners = xs} {list = fs} {others = others} are rest) all = elim (split_at x xs j b h) as (λ _. Two i a j b) [
    | inl s ↦ (
        let here : AreOverlaps m.greater i a x.number x.equation fs = subst (λ (y : Live). AreOverlaps m.greater y.number y.equation x.number x.equation fs) q are in
        subst (λ k. Two i a k b) s.0 (subst (λ e. Two i a x.number e) s.1 (record { list = fs; are = here; covered = each_front FormedCovered fs others all })))
    | inr s ↦ inner_at i a outer xs others j b q s rest (each_behind FormedCovered fs others all)
  ]

  -- the two facts of an overlap's pair
  record OfPair (g : Formed) (l r : Tree) : Type 0 where
    outer : Equation
    inner : Equation
    chain : Chain
    outer_is : slice_get facts g.overlap.outer ≡ Some outer
    inner_is : slice_get facts g.overlap.inner ≡ Some inner
    pair_is : IsPairOf outer inner g.overlap (Pair l r chain)

  overlap_sides : (member : Member) (g : Formed) (l r : Tree) → member ≡ Overlap g → AreSides facts axioms member l r → OfPair g l r
  overlap_sides _ g _ _ q (of_axiom h) = absurd cc
  overlap_sides _ g _ _ q (of_overlap {formed = f} {a = a} {b = b} {left = l} {right = r} {chain = c} ha hb p) =
      let same : f ≡ g = cc in
      subst (λ (x : Formed). OfPair x l r) same (record { outer = a; inner = b; chain = c; outer_is = ha; inner_is = hb; pair_is = p })

  overlap_joins : (i : ℕ) (a : Equation) (j : ℕ) (b : Equation) → slice_get facts i ≡ Some a → slice_get facts j ≡ Some b → (g : Formed) → IsOfFacts i j g → FormedCovered g → IsJoinableOverlap m (numbered facts) a b g.overlap
  overlap_joins i a j b ha hb g of_them c =
      let p = overlap_sides (Overlap g) g c.left c.right refl c.sides in
      let outer : slice_get facts i ≡ Some p.outer = subst (λ k. slice_get facts k ≡ Some p.outer) of_them.outer_is p.outer_is in
      let inner : slice_get facts j ≡ Some p.inner = subst (λ k. slice_get facts k ≡ Some p.inner) of_them.inner_is p.inner_is in
      let is_a : p.outer ≡ a = some_same p.outer a (sym outer ∙ ha) in
      let is_b : p.inner ≡ b = some_same p.inner b (sym inner ∙ hb) in
      let joinable : AreJoinable m (numbered facts) c.left c.right = subst (λ (es : List Equation). IsJoinable m.greater (HasSym m) m.arity es c.left c.right) (sym (equations_numbered 0 facts)) c.joinable in
      let k = pair_joins m (numbered facts) p.outer p.inner g.overlap c.left c.right p.chain p.pair_is joinable in
      subst (λ e. IsJoinableOverlap m (numbered facts) a e g.overlap) is_b (subst (λ e. IsJoinableOverlap m (numbered facts) e p.inner g.overlap) is_a k)

  overlaps_join : (fs : List Formed) → AllOverlaps m.greater (numbered facts) (numbered facts) fs → Each FormedCovered fs → AreJoinableOverlaps m (numbered facts)
  overlaps_join fs all covered i j a b hi hj =
      let o = outer_at (numbered facts) (numbered facts) fs i a hi all covered in
      let two = inner_at i a (record { number = i; equation = a }) (numbered facts) o.list j b refl hj o.are o.covered in
      record {
        list = two.list;
        are_overlaps = two.are;
        are_joinable = each_both (IsOfFacts i j) FormedCovered (λ (g : Formed). IsJoinableOverlap m (numbered facts) a b g.overlap) (overlap_joins i a j b (sym (fact_there facts i) ∙ hi) (sym (fact_there facts j) ∙ hj)) two.list (of_facts m.greater i a j b two.list two.are) two.covered;
      }

  -- where the answer of the joins' tests is Yes
  pub both_join : (members : List Member) (list : List Join) (n : ℕ) → AreExpected m.greater facts axioms members → AreTested m facts axioms members list n Yes → AreJoinableOverlaps m (numbered facts) × AreJoinableAxioms m (numbered facts) axioms
  both_join members list n expected tested =
      let every : Each IsCovered (axioms_from 0 axioms ++ members_of expected.overlaps) = subst (Each IsCovered) expected.members_are (all_covered refl tested) in (
        overlaps_join expected.overlaps expected.are_overlaps (formed_covered expected.overlaps (each_behind IsCovered (axioms_from 0 axioms) (members_of expected.overlaps) every)),
        axioms_join (each_front IsCovered (axioms_from 0 axioms) (members_of expected.overlaps) every),
      )
