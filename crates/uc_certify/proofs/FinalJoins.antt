-- Where the final pass finds nothing missing and no overlap too large, every axiom and every overlap is found to be joined, with the
-- facts that live numbered by their places.
use Rattle.std.proofs.Common.{◌≡◌, ℕ, zero, suc, ◌+◌, ◌<◌, ◌≤◌, List, [], ◌∷◌, ◌++◌, map, slice_get, Option, Some, None, refl, sym, ap, ap₂, ◌∙◌, subst, arith}
use Rattle.uc_term.specs.declared.equation.Equation.{Equation}
use Rattle.uc_term.specs.Tree.{Tree}
use Rattle.uc_term.proofs.Gets.{get-map, map-get}
use Rattle.uc_order.specs.Members.{Each}
use Rattle.uc_order.specs.Laws.{Meaning}
use Rattle.uc_fact.specs.declared.chain.Chain.{Chain}
use Rattle.uc_fact.specs.declared.fact.Fact.{Fact}
use Rattle.uc_fact.specs.declared.fact.Overlap.{Overlap as AnyOverlap}
use Rattle.uc_fact.specs.declared.fact.Origin.{Origin}
use Rattle.uc_fact.specs.declared.fact.Origin.TheVariants.{Axiom as OfAxiom, Overlap as OfOverlap}
use Rattle.uc_fact.specs.declared.fact.System.{System}
use Rattle.uc_fact.specs.Live.{Live, RiseFrom, equation_of, equations_of, numbered, numbered_from}
use Rattle.uc_rewrite.specs.Normalising.{IsNormalOf}
use Rattle.uc_ground.specs.Joining.{IsJoined}
use Rattle.uc_ac.specs.Ends.{IsEndsAnswer}
use Rattle.uc_pair.specs.declared.formation.Formation.TheVariants.{Pair}
use Rattle.uc_pair.specs.declared.formed.Formed.{Formed}
use Rattle.uc_pair.specs.declared.formed.Size.{Size}
use Rattle.uc_pair.specs.declared.formed.Size.TheVariants.{Weight, Same, Large}
use Rattle.uc_pair.specs.Overlapping.{read_from}
use Rattle.uc_pair.specs.Pairs.{IsPairOf}
use Rattle.uc_pair.proofs.OnePair.{one_formation}
use Rattle.uc_shelf.specs.declared.entry.Entry.{Entry}
use Rattle.uc_shelf.specs.Entries.{born, live}
use Rattle.uc_shelf.specs.Rising.{live_rise}
use Rattle.uc_machine.specs.declared.task.Missing.{Missing}
use Rattle.uc_machine.specs.declared.task.Outcome.{Outcome}
use Rattle.uc_machine.specs.declared.task.Outcome.TheVariants.{Convergent}
use Rattle.uc_machine.specs.State.{State}
use Rattle.uc_machine.specs.Results.{Trial, IsTrial, IsPair, of_axiom, of_overlap, of_dead}
use Rattle.uc_machine.specs.Finals as final
use Rattle.uc_machine.specs.Finals.{origin_if, small_ones, large_or, first_large, Tests, all_tested, is_joined, is_missing, IsFinal, some_missing, some_large, some_stuck, all_converges}
use Rattle.uc_runs.proofs.EachFact.{each_get}
use Rattle.uc_runs.proofs.Replayed.{live_named}
use Rattle.uc_certify.specs.declared.expected.Member.{Member}
use Rattle.uc_certify.specs.declared.expected.Member.TheVariants.{Axiom, Overlap}
use Rattle.uc_certify.specs.Expecting.{axioms_from, members_of, OverlapsWith, no_inner, next_inner, AllOverlaps, no_outer, next_outer}
use Rattle.uc_certify.specs.Joining.{AreSides, of_axiom as sides_of_axiom, of_overlap as sides_of_overlap}
use Rattle.uc_certify.specs.Making.{AreFoundJoined, IsFoundJoined, AllAreFoundJoined}
use Rattle.uc_certify.proofs.Once.{all_once}
use Rattle.uc_certify.proofs.OtherNumbers.{renamed}
use Rattle.uc_certify.proofs.OtherEnds.{found_joined}
use Rattle.uc_certify.proofs.OtherOverlaps.{renamed_overlap, renamed_formed, pair_on, all_on}

-- LISTS

each_front : {A : Type 0} (P : A → Type 0) (xs ys : List A) → Each P (xs ++ ys) → Each P xs
each_front P [] ys h = tt
each_front P (x ∷ xs) ys h = (h.0, each_front P xs ys h.1)

each_behind : {A : Type 0} (P : A → Type 0) (xs ys : List A) → Each P (xs ++ ys) → Each P ys
each_behind P [] ys h = h
each_behind P (x ∷ xs) ys h = each_behind P xs ys h.1

each_both : {A : Type 0} (P : A → Type 0) (xs ys : List A) → Each P xs → Each P ys → Each P (xs ++ ys)
each_both P [] ys a b = b
each_both P (x ∷ xs) ys a b = (a.0, each_both P xs ys a.1 b)

some_same : {A : Type 0} (x y : A) → Some x ≡ Some y → x ≡ y
some_same x y e = cc

-- THE NUMBER OF THE FACT AT A PLACE

-- behind the last fact the numbers go on
abbrev number_from : ℕ → List Live → ℕ → ℕ
number_from n [] k = n + k
number_from n (f ∷ fs) zero = f.number
number_from n (f ∷ fs) (suc k) = number_from (f.number + 1) fs k

no_less : (n k : ℕ) → n ≤ n + k
no_less n k = omega arith

by_next : (a b c : ℕ) → a ≤ b → b + 1 ≤ c → a ≤ c
by_next a b c h k = omega (arith, h, k)

moved_on : (n i j : ℕ) → i < j → n + i < n + j
moved_on n i j h = omega (arith, h)

below_next : (a b : ℕ) → a + 1 ≤ b → a < b
below_next a b h = omega (arith, h)

at_least : (n : ℕ) (fs : List Live) (k : ℕ) → RiseFrom n fs → n ≤ number_from n fs k
at_least n [] k r = no_less n k
at_least n (f ∷ fs) zero r = r.0
at_least n (f ∷ fs) (suc k) r = by_next n f.number (number_from (f.number + 1) fs k) r.0 (at_least (f.number + 1) fs k r.1)

numbers_rise : (n : ℕ) (fs : List Live) → RiseFrom n fs → (i j : ℕ) → i < j → number_from n fs i < number_from n fs j
numbers_rise n [] r i j h = moved_on n i j h
numbers_rise n (f ∷ fs) r zero zero h = absurd (omega (arith, h))
numbers_rise n (f ∷ fs) r zero (suc j) h = below_next f.number (number_from (f.number + 1) fs j) (at_least (f.number + 1) fs j r.1)
numbers_rise n (f ∷ fs) r (suc i) zero h = absurd (omega (arith, h))
numbers_rise n (f ∷ fs) r (suc i) (suc j) h = numbers_rise (f.number + 1) fs r.1 i j (omega (arith, h))

number_at : (n : ℕ) (fs : List Live) (k : ℕ) (f : Live) → slice_get fs k ≡ Some f → number_from n fs k ≡ f.number
number_at n [] k f e = absurd cc
number_at n (g ∷ gs) zero f e = ap (λ (x : Live). x.number) (some_same g f e)
number_at n (g ∷ gs) (suc k) f e = number_at (g.number + 1) gs k f e

all_named : (ν : ℕ → ℕ) (n : ℕ) (fs : List Live) → ((k : ℕ) (f : Live) → slice_get fs k ≡ Some f → ν (n + k) ≡ f.number) → map (renamed ν) (numbered_from n (equations_of fs)) ≡ fs
all_named ν n [] h = refl
all_named ν n (f ∷ fs) h =
    let zero_is : n ≡ n + 0 = omega arith in
    let number : ν n ≡ f.number = ap ν zero_is ∙ h 0 f refl in
    let here : renamed ν (record { number = n; equation = f.equation }) ≡ f = ap (λ (k : ℕ). (let l : Live = record { number = k; equation = f.equation } in l)) number in
    ap₂ (λ (x : Live) (xs : List Live). x ∷ xs) here (all_named ν (n + 1) fs (λ k g e. (let same : n + 1 + k ≡ n + suc k = omega arith in ap ν same ∙ h (suc k) g e)))

-- WHAT WAS TESTED

module _ (m : Meaning) where
  -- the two ways to say which overlaps there are
  with_said : (outer : Live) (inners : List Live) (fs : List Formed) → final.OverlapsOf m outer inners fs → OverlapsWith m.greater outer inners fs
  with_said outer _ _ final.no_inner = no_inner
  with_said outer _ _ (final.next_inner {inners = inners} {others = others} are rest) = next_inner are (with_said outer inners others rest)

  all_said : (inners outers : List Live) (fs : List Formed) → final.AllOverlaps m inners outers fs → AllOverlaps m.greater inners outers fs
  all_said inners _ _ final.no_outer = no_outer
  all_said inners _ _ (final.next_outer {outer = outer} {outers = outers} {fs = fs} {others = others} are rest) = next_outer (with_said outer inners fs are) (all_said inners outers others rest)

  module _ (axioms : List Equation) (es : List Entry) where
    -- a pair of this origin was tried, and it is joined
    record IsTried (o : Origin) : Type 0 where
      trial : Trial
      is_trial : IsTrial m axioms es o trial
      joined : IsJoined trial.answer

    all_tried : (os : List Origin) (ms : List Missing) → ms ≡ [] → Tests m axioms es os ms → Each IsTried os
    all_tried _ _ e all_tested = tt
    all_tried _ ms e (is_joined {os = os} t i j rest) = (record { trial = t; is_trial = i; joined = j }, all_tried os ms e rest)
    all_tried _ _ e (is_missing t i n g rest) = absurd cc

    pair_of_axiom : (o : Origin) (k : ℕ) (e : Equation) (c : Chain) → o ≡ OfAxiom k → IsPair axioms es o e c → slice_get axioms k ≡ Some e
    pair_of_axiom _ k e _ q (of_axiom {k = i} h) = let same : i ≡ k = cc in subst (λ (x : ℕ). slice_get axioms x ≡ Some e) same h
    pair_of_axiom _ k _ c q (of_overlap ha hb p) = absurd cc
    pair_of_axiom _ k _ _ q (of_dead h) = absurd cc

    -- the two facts of an overlap's pair
    record OfFacts (o : AnyOverlap) (e : Equation) (c : Chain) : Type 0 where
      outer : Fact
      inner : Fact
      outer_is : slice_get (born es) o.outer ≡ Some outer
      inner_is : slice_get (born es) o.inner ≡ Some inner
      pair_is : IsPairOf (equation_of outer) (equation_of inner) o (Pair e.left e.right c)

    pair_of_facts : (o : Origin) (overlap : AnyOverlap) (e : Equation) (c : Chain) → o ≡ OfOverlap overlap → IsPair axioms es o e c → OfFacts overlap e c
    pair_of_facts _ overlap e _ q (of_axiom h) = absurd cc
    pair_of_facts _ overlap _ c q (of_overlap {o = x} {a = a} {b = b} {l = l} {r = r} ha hb p) =
        let same : x ≡ overlap = cc in
        let pair : Equation = record { left = l; right = r } in
        subst (λ (y : AnyOverlap). OfFacts y pair c) same (record { outer = a; inner = b; outer_is = ha; inner_is = hb; pair_is = p })
    pair_of_facts _ overlap _ _ q (of_dead h) = absurd cc

    -- BY PLACES

    abbrev facts : List Equation
    facts = equations_of (live es)

    abbrev ν : ℕ → ℕ
    ν = number_from 0 (live es)

    rises : (i j : ℕ) → i < j → ν i < ν j
    rises = numbers_rise 0 (live es) (live_rise es)

    named : map (renamed ν) (numbered facts) ≡ live es
    named = all_named ν 0 (live es) (λ k f e. (let same : 0 + k ≡ k = omega arith in ap ν same ∙ number_at 0 (live es) k f e))

    found : (o : Origin) (t : Trial) → IsTrial m axioms es o t → IsJoined t.answer → AreFoundJoined m (numbered facts) t.equation.left t.equation.right
    found o t i j =
        found_joined ν rises m (numbered facts) t.equation.left t.equation.right t.left t.right t.answer
        (subst (λ (fs : List Live). IsNormalOf m.greater m.least fs 4096 t.equation.left t.left) (sym named) i.left_is)
        (subst (λ (fs : List Live). IsNormalOf m.greater m.least fs 4096 t.equation.right t.right) (sym named) i.right_is)
        (subst (λ (fs : List Live). IsEndsAnswer m fs t.left.term t.right.term t.answer) (sym named) i.answer_is)
        j

    abbrev Found : Member → Type 0
    Found = IsFoundJoined m facts axioms

    axiom_found : (k : ℕ) → IsTried (OfAxiom k) → Found (Axiom k)
    axiom_found k tried = record { small = λ h. h; joined = go }
      where
        at : slice_get axioms k ≡ Some tried.trial.equation
        at = pair_of_axiom (OfAxiom k) k tried.trial.equation tried.trial.chain refl tried.is_trial.pair_is

        go : (l r : Tree) → AreSides facts axioms (Axiom k) l r → AreFoundJoined m (numbered facts) l r
        go _ _ (sides_of_axiom {e = e} there) =
            let is : tried.trial.equation ≡ e = some_same tried.trial.equation e (sym at ∙ there) in
            subst (λ (x : Equation). AreFoundJoined m (numbered facts) x.left x.right) is (found (OfAxiom k) tried.trial tried.is_trial tried.joined)

    axioms_found : (n : ℕ) (xs : List Equation) → Each IsTried (final.axioms_from n xs) → Each Found (axioms_from n xs)
    axioms_found n [] all = tt
    axioms_found n (x ∷ xs) all = (axiom_found n all.0, axioms_found (n + 1) xs all.1)

    -- the fact at a place is born with its number
    born_at : (k : ℕ) (a : Equation) (f : Fact) → slice_get facts k ≡ Some a → slice_get (born es) (ν k) ≡ Some f → equation_of f ≡ a
    born_at k a f at there =
        let g = get-map (λ (x : Live). x.equation) (live es) k a at in
        let own = each_get (λ (x : Live). slice_get (map equation_of (born es)) x.number ≡ Some x.equation) (live es) (live_named axioms es) k g.0 g.1 in
        some_same (equation_of f) a (sym (map-get equation_of (born es) (ν k) f there) ∙ ap (slice_get (map equation_of (born es))) (number_at 0 (live es) k g.0 g.1) ∙ own ∙ ap Some g.2)

    overlap_found : (g : Formed) → (g.size ≡ Large → ⊥) → IsTried (OfOverlap (renamed_overlap ν g.overlap)) → Found (Overlap g)
    overlap_found g small tried = record { small = small; joined = go }
      where
        origin : Origin
        origin = OfOverlap (renamed_overlap ν g.overlap)

        p : OfFacts (renamed_overlap ν g.overlap) tried.trial.equation tried.trial.chain
        p = pair_of_facts origin (renamed_overlap ν g.overlap) tried.trial.equation tried.trial.chain refl tried.is_trial.pair_is

        go : (l r : Tree) → AreSides facts axioms (Overlap g) l r → AreFoundJoined m (numbered facts) l r
        go _ _ (sides_of_overlap {a = a} {b = b} {left = l} {right = r} {chain = c} at bt pair) =
            let outer : equation_of p.outer ≡ a = born_at g.overlap.outer a p.outer at p.outer_is in
            let inner : equation_of p.inner ≡ b = born_at g.overlap.inner b p.inner bt p.inner_is in
            let o = renamed_overlap ν g.overlap in
            let own = pair_on ν a b g.overlap l r c pair in
            let there : IsPairOf a b o (Pair tried.trial.equation.left tried.trial.equation.right tried.trial.chain) =
            subst (λ (x : Equation). IsPairOf a x o (Pair tried.trial.equation.left tried.trial.equation.right tried.trial.chain)) inner
            (subst (λ (x : Equation). IsPairOf x (equation_of p.inner) o (Pair tried.trial.equation.left tried.trial.equation.right tried.trial.chain)) outer p.pair_is) in
            let same : Pair tried.trial.equation.left tried.trial.equation.right tried.trial.chain ≡ Pair l r own.0 =
            one_formation (read_from o.outer o.outer_side a) (read_from o.inner o.inner_side b) o.position.0 (Pair tried.trial.equation.left tried.trial.equation.right tried.trial.chain) (Pair l r own.0) there own.1 in
            let left : tried.trial.equation.left ≡ l = cc in
            let right : tried.trial.equation.right ≡ r = cc in
            subst (λ (x : Tree). AreFoundJoined m (numbered facts) l x) right (subst (λ (x : Tree). AreFoundJoined m (numbered facts) x tried.trial.equation.right) left (found origin tried.trial tried.is_trial tried.joined))

    -- the first of some overlaps isn't too large, and it was tried
    record Small (size : Size) (o : AnyOverlap) (rest : Option AnyOverlap) (os : List Origin) : Type 0 where
      small : size ≡ Large → ⊥
      here : IsTried (OfOverlap o)
      later : rest ≡ None
      others : Each IsTried os

    small_tried : (size : Size) (o : AnyOverlap) (rest : Option AnyOverlap) (os : List Origin) → large_or size o rest ≡ None → Each IsTried (origin_if size o ++ os) → Small size o rest os
    small_tried (Weight n) o rest os e all = record { small = λ h. cc; here = all.0; later = e; others = all.1 }
    small_tried Same o rest os e all = record { small = λ h. cc; here = all.0; later = e; others = all.1 }
    small_tried Large o rest os e all = absurd cc

    overlaps_found : (gs : List Formed) → first_large (map (renamed_formed ν) gs) ≡ None → Each IsTried (small_ones (map (renamed_formed ν) gs)) → Each Found (members_of gs)
    overlaps_found [] e all = tt
    overlaps_found (g ∷ gs) e all =
        let s = small_tried g.size (renamed_overlap ν g.overlap) (first_large (map (renamed_formed ν) gs)) (small_ones (map (renamed_formed ν) gs)) e all in
        (overlap_found g s.small s.here, overlaps_found gs s.later s.others)

    all_found : (fs : List Formed) → final.AllOverlaps m (live es) (live es) fs → Tests m axioms es (final.axioms_from 0 axioms ++ small_ones fs) [] → first_large fs ≡ None → AllAreFoundJoined m facts axioms
    all_found fs all tests none members expected =
        let gs = expected.overlaps in
        let others = subst (λ (js : List Live). AllOverlaps m.greater js js (map (renamed_formed ν) gs)) named (all_on ν rises m.greater (numbered facts) (numbered facts) gs expected.are_overlaps) in
        let same : fs ≡ map (renamed_formed ν) gs = all_once m.greater (live es) (live es) fs (map (renamed_formed ν) gs) (all_said (live es) (live es) fs all) others in
        let tried = all_tried (final.axioms_from 0 axioms ++ small_ones fs) [] refl tests in
        let by_axioms = axioms_found 0 axioms (each_front IsTried (final.axioms_from 0 axioms) (small_ones fs) tried) in
        let small : Each IsTried (small_ones (map (renamed_formed ν) gs)) = subst (λ (xs : List Formed). Each IsTried (small_ones xs)) same (each_behind IsTried (final.axioms_from 0 axioms) (small_ones fs) tried) in
        subst (Each Found) (sym expected.members_are) (each_both Found (axioms_from 0 axioms) (members_of gs) by_axioms (overlaps_found gs (sym (ap first_large same) ∙ none) small))

final_found : (m : Meaning) (axioms : List Equation) (s : State) (outcome : Outcome) (system : System) → outcome ≡ Convergent system → IsFinal m axioms s outcome → AllAreFoundJoined m (equations_of (live s.entries)) axioms
final_found m axioms s _ system e (some_missing all tests ne) = absurd cc
final_found m axioms s _ system e (some_large all tests h) = absurd cc
final_found m axioms s _ system e (some_stuck g all tests h k) = absurd cc
final_found m axioms s _ system e (all_converges {fs = fs} all tests h k) = all_found m axioms s.entries fs all tests h

pub convergent_found : (m : Meaning) (axioms : List Equation) (s : State) (system : System) → IsFinal m axioms s (Convergent system) → AllAreFoundJoined m (equations_of (live s.entries)) axioms
convergent_found m axioms s system f = final_found m axioms s (Convergent system) system refl f
