-- An overlap that the final pass names as too large is one of two facts that live.
use Rattle.std.proofs.Common.{◌≡◌, ℕ, ◌+◌, List, [], ◌∷◌, ◌++◌, false, Some, refl, sym, ap, ◌∙◌, subst, map, slice_get, inl, inr}
use Rattle.std.specs.Prelude.{not, filter}
use Rattle.std.proofs.lemmas.Bool.{cases_Bool}
use Rattle.uc_term.specs.declared.equation.Equation.{Equation}
use Rattle.uc_term.specs.declared.equation.Side.{Side}
use Rattle.uc_term.specs.declared.equation.Side.TheVariants.{Left, Right}
use Rattle.uc_term.proofs.Gets.{get-map}
use Rattle.uc_order.specs.Laws.{Meaning}
use Rattle.uc_fact.specs.declared.fact.Fact.{Fact}
use Rattle.uc_fact.specs.declared.fact.Overlap.{Overlap}
use Rattle.uc_fact.specs.Live.{Live, numbered_from, equation_of}
use Rattle.uc_pair.specs.declared.formed.Formed.{Formed}
use Rattle.uc_pair.specs.declared.formed.Size.{Size}
use Rattle.uc_pair.specs.declared.formed.Size.TheVariants.{Weight, Same, Large as TooLarge}
use Rattle.uc_pair.specs.Overlapping.{IsFormedOf, read_from}
use Rattle.uc_pair.specs.Listing.{Lists, no_more_places, at_variable, no_unifier, repeats, goes_nowhere, leads_up, is_listed, AreOverlaps, no_rules, next_rules}
use Rattle.uc_shelf.specs.declared.entry.Entry.{Entry}
use Rattle.uc_shelf.specs.Entries.{born, is_dead, equations, live}
use Rattle.uc_machine.specs.declared.task.Outcome.{Outcome}
use Rattle.uc_machine.specs.declared.task.Outcome.TheVariants.{Large}
use Rattle.uc_machine.specs.Finals.{OverlapsOf, no_inner, next_inner, AllOverlaps, no_outer, next_outer, large_or, first_large, IsFinal, some_missing, some_large, some_stuck, all_converges}
use Rattle.uc_machine.specs.Lists.{Each}
use Rattle.uc_machine.specs.State.{State}
use Rattle.uc_machine.proofs.Meetings.{Each-append}
use Rattle.uc_runs.specs.Large.{IsLargeOverlap}
use Rattle.uc_runs.proofs.Replayed.{live_named}

-- each fact that lives is born and not dead

alive_only : (es : List Entry) (fs : List Live) → Each (λ (f : Live). is_dead es f.number ≡ false) (filter (λ (f : Live). not (is_dead es f.number)) fs)
alive_only es [] = tt
alive_only es (f ∷ fs) = elim (cases_Bool (is_dead es f.number)) as (λ _. Each (λ (g : Live). is_dead es g.number ≡ false) (filter (λ (g : Live). not (is_dead es g.number)) (f ∷ fs))) [
  | inl e ↦ rw e (alive_only es fs)
  | inr e ↦ rw e (e, alive_only es fs)
]

-- a fact that is born, of this number, with these sides, and lives
record IsAlive (es : List Entry) (f : Live) : Type 0 where
  fact : Fact
  fact_is : slice_get (born es) f.number ≡ Some fact
  same : equation_of fact ≡ f.equation
  lives : is_dead es f.number ≡ false

both_each : (es : List Entry) (fs : List Live) → Each (λ (f : Live). slice_get (map equation_of (born es)) f.number ≡ Some f.equation) fs → Each (λ (f : Live). is_dead es f.number ≡ false) fs → Each (IsAlive es) fs
both_each es [] a b = tt
both_each es (f ∷ fs) a b =
    let g = get-map equation_of (born es) f.number f.equation a.0 in
    (record { fact = g.0; fact_is = g.1; same = g.2; lives = b.0 }, both_each es fs a.1 b.1)

each_lives : (es : List Entry) → Each (IsAlive es) (live es)
each_lives es = both_each es (live es) (live_named [] es) (alive_only es (numbered_from 0 (equations es)))

module _ (m : Meaning) where
  -- an overlap of these two facts, of this size
  record IsBetween (i : ℕ) (a : Equation) (j : ℕ) (b : Equation) (g : Formed) : Type 0 where
    outer_is : g.overlap.outer ≡ i
    inner_is : g.overlap.inner ≡ j
    formed : IsFormedOf a b g

  module _ (i : ℕ) (a : Equation) (j : ℕ) (b : Equation) where
    lists_between : (p q : Side) (place : ℕ) (fs : List Formed) → Lists m.greater (read_from i p a) (read_from j q b) place fs → Each (IsBetween i a j b) fs
    lists_between p q place _ (no_more_places l) = tt
    lists_between p q place fs (at_variable l n rest) = lists_between p q (place + 1) fs rest
    lists_between p q place fs (no_unifier l n rest) = lists_between p q (place + 1) fs rest
    lists_between p q place fs (repeats l n rest) = lists_between p q (place + 1) fs rest
    lists_between p q place fs (goes_nowhere l n k rest) = lists_between p q (place + 1) fs rest
    lists_between p q place fs (leads_up o k rest) = lists_between p q (place + 1) fs rest
    lists_between p q place _ (is_listed {list = fs} o n k size rest) = (record { outer_is = refl; inner_is = refl; formed = record { overlaps = o; has_size = size } }, lists_between p q (place + 1) fs rest)

    overlaps_between : (fs : List Formed) → AreOverlaps m.greater i a j b fs → Each (IsBetween i a j b) fs
    overlaps_between _ (next_rules {list = w} l1 (next_rules {list = x} l2 (next_rules {list = y} l3 (next_rules {list = z} l4 no_rules)))) =
        let P = IsBetween i a j b in
        Each-append P w (x ++ (y ++ (z ++ []))) (lists_between Left Left 0 w l1)
        (Each-append P x (y ++ (z ++ [])) (lists_between Left Right 0 x l2)
        (Each-append P y (z ++ []) (lists_between Right Left 0 y l3)
        (Each-append P z [] (lists_between Right Right 0 z l4) tt)))

  -- an overlap of two facts that live
  record IsOfLive (es : List Entry) (g : Formed) : Type 0 where
    outer : Live
    inner : Live
    outer_lives : IsAlive es outer
    inner_lives : IsAlive es inner
    between : IsBetween outer.number outer.equation inner.number inner.equation g

  between_each : (es : List Entry) (x y : Live) → IsAlive es x → IsAlive es y → (fs : List Formed) → Each (IsBetween x.number x.equation y.number y.equation) fs → Each (IsOfLive es) fs
  between_each es x y a b [] h = tt
  between_each es x y a b (g ∷ gs) h = (record { outer = x; inner = y; outer_lives = a; inner_lives = b; between = h.0 }, between_each es x y a b gs h.1)

  inner_each : (es : List Entry) (x : Live) → IsAlive es x → (ys : List Live) → Each (IsAlive es) ys → (fs : List Formed) → OverlapsOf m x ys fs → Each (IsOfLive es) fs
  inner_each es x a [] h _ no_inner = tt
  inner_each es x a (y ∷ ys) h _ (next_inner {fs = fs} {others = gs} l rest) =
      Each-append (IsOfLive es) fs gs (between_each es x y a h.0 fs (overlaps_between x.number x.equation y.number y.equation fs l)) (inner_each es x a ys h.1 gs rest)

  outer_each : (es : List Entry) (ys : List Live) → Each (IsAlive es) ys → (xs : List Live) → Each (IsAlive es) xs → (fs : List Formed) → AllOverlaps m ys xs fs → Each (IsOfLive es) fs
  outer_each es ys h [] k _ no_outer = tt
  outer_each es ys h (x ∷ xs) k _ (next_outer {fs = fs} {others = gs} l rest) =
      Each-append (IsOfLive es) fs gs (inner_each es x k.0 ys h fs l) (outer_each es ys h xs k.1 gs rest)

  -- one of them that is too large
  large_one : (es : List Entry) (g : Formed) (o : Overlap) → IsOfLive es g → g.size ≡ TooLarge → g.overlap ≡ o → IsLargeOverlap es o
  large_one es g o h size same = subst (IsLargeOverlap es) same (record {
    outer = h.outer_lives.fact;
    inner = h.inner_lives.fact;
    outer_is = ap (slice_get (born es)) h.between.outer_is ∙ h.outer_lives.fact_is;
    inner_is = ap (slice_get (born es)) h.between.inner_is ∙ h.inner_lives.fact_is;
    outer_lives = ap (is_dead es) h.between.outer_is ∙ h.outer_lives.lives;
    inner_lives = ap (is_dead es) h.between.inner_is ∙ h.inner_lives.lives;
    formed = subst (λ (z : Size). IsFormedOf (equation_of h.outer_lives.fact) (equation_of h.inner_lives.fact) (record { overlap = g.overlap; size = z })) size
        (subst (λ (b : Equation). IsFormedOf (equation_of h.outer_lives.fact) b g) (sym h.inner_lives.same) (subst (λ (a : Equation). IsFormedOf a h.inner.equation g) (sym h.outer_lives.same) h.between.formed));
  })

  first_is_large : (es : List Entry) (fs : List Formed) (o : Overlap) → Each (IsOfLive es) fs → first_large fs ≡ Some o → IsLargeOverlap es o
  first_is_large es [] o h e = absurd (cc)
  first_is_large es (g ∷ gs) o h e = by_size g.size refl e (first_is_large es gs o h.1)
    where
      by_size : (z : Size) → g.size ≡ z → large_or z g.overlap (first_large gs) ≡ Some o → (first_large gs ≡ Some o → IsLargeOverlap es o) → IsLargeOverlap es o
      by_size (Weight n) s q later = later q
      by_size Same s q later = later q
      by_size TooLarge s q later = large_one es g o h.0 s (cc)

  final_large : (axioms : List Equation) (s : State) (o : Overlap) (outcome : Outcome) → IsFinal m axioms s outcome → outcome ≡ Large o → IsLargeOverlap s.entries o
  final_large axioms s o _ (some_missing a b c) e = absurd (cc)
  final_large axioms s o _ (some_large {fs = fs} {o = p} all tests first) e =
      let same : p ≡ o = cc in
      subst (IsLargeOverlap s.entries) same (first_is_large s.entries fs p (outer_each s.entries (live s.entries) (each_lives s.entries) (live s.entries) (each_lives s.entries) fs all) first)
  final_large axioms s o _ (some_stuck g a b c d) e = absurd (cc)
  final_large axioms s o _ (all_converges a b c d) e = absurd (cc)

  pub large_of_live : (axioms : List Equation) (s : State) (o : Overlap) → IsFinal m axioms s (Large o) → IsLargeOverlap s.entries o
  large_of_live axioms s o f = final_large axioms s o (Large o) f refl
