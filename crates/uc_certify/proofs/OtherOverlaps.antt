-- The overlaps of facts with other numbers in the same order.
use Rattle.std.proofs.Common.{ℕ, ◌+◌, ◌<◌, List, [], ◌∷◌, map, refl, sym, ap, subst}
use Rattle.std.proofs.lemmas.List.{map-append}
use Rattle.uc_term.specs.declared.equation.Equation.{Equation}
use Rattle.uc_term.specs.declared.equation.Side.TheVariants.{Left, Right}
use Rattle.uc_term.specs.Tree.{Tree}
use Rattle.uc_fact.specs.declared.chain.Chain.{Chain}
use Rattle.uc_fact.specs.declared.fact.Overlap.{Overlap}
use Rattle.uc_fact.specs.Live.{Live, Rule}
use Rattle.uc_pair.specs.declared.formation.Formation.TheVariants.{Pair}
use Rattle.uc_pair.specs.declared.formed.Formed.{Formed}
use Rattle.uc_pair.specs.declared.formed.Size.{Size}
use Rattle.uc_pair.specs.Overlapping.{Overlapping, IsApart, Fits, HasSize, is_large, is_same, is_weight, peak, left_of, right_of, read_from}
use Rattle.uc_pair.specs.Pairs.{IsPairOf, forms_pair, names_of, chain_by}
use Rattle.uc_term.specs.Variables.{renumbered_by}
use Rattle.uc_pair.specs.Listing.{ComesBefore, by_number, by_side, IsRepeated, inner_is_later, with_its_copy, LeadsUp, outer_up, inner_up, Lists, no_more_places, at_variable, no_unifier, repeats, goes_nowhere, leads_up, is_listed, ListsEach, no_rules, next_rules, AreOverlaps}
use Rattle.uc_certify.specs.Expecting.{OverlapsWith, no_inner, next_inner, AllOverlaps, no_outer, next_outer}
use Rattle.uc_certify.proofs.OtherNumbers.{renamed, renamed_rule, one_number, rises_back}

module _ (ν : ℕ → ℕ) where
  abbrev pub renamed_overlap : Overlap → Overlap
  renamed_overlap o = record { outer = ν o.outer; outer_side = o.outer_side; inner = ν o.inner; inner_side = o.inner_side; position = o.position }

  abbrev pub renamed_formed : Formed → Formed
  renamed_formed f = record { overlap = renamed_overlap f.overlap; size = f.size }

  -- the rules overlap as before
  module _ {outer inner : Rule} {place : ℕ} where
    abbrev on : Overlapping outer inner place → Overlapping (renamed_rule ν outer) (renamed_rule ν inner) place
    on o = record { inside = o.inside; no_variable = o.no_variable; k = o.k; apart = o.apart; σ = o.σ; most_general = o.most_general }

    abbrev back : Overlapping (renamed_rule ν outer) (renamed_rule ν inner) place → Overlapping outer inner place
    back o = record { inside = o.inside; no_variable = o.no_variable; k = o.k; apart = o.apart; σ = o.σ; most_general = o.most_general }

    apart_on : IsApart outer inner place → IsApart (renamed_rule ν outer) (renamed_rule ν inner) place
    apart_on a = record { k = a.k; apart = a.apart; never = a.never }

    fits_on : (o : Overlapping outer inner place) → Fits o → Fits (on o)
    fits_on o f = record { peak_small = f.peak_small; left_small = f.left_small; right_small = f.right_small }

    size_on : (o : Overlapping outer inner place) (size : Size) → HasSize o size → HasSize (on o) size
    size_on o _ (is_large l) = is_large l
    size_on o _ (is_same f e) = is_same (fits_on o f) e
    size_on o _ (is_weight f n) = is_weight (fits_on o f) n

  -- and their pair has the same sides
  pub pair_on : (a b : Equation) (o : Overlap) (l r : Tree) (chain : Chain) → IsPairOf a b o (Pair l r chain) → (own : Chain) × IsPairOf a b (renamed_overlap o) (Pair l r own)
  pair_on a b o _ _ _ (forms_pair {left = l} {right = r} x f p) =
      let top = renumbered_by (names_of (left_of x) (right_of x) (peak x)) (peak x) in
      let own = chain_by (renamed_overlap o) p.there l top r in
      (own, forms_pair (on x) (fits_on x f) (record { path = p.path; there = p.there; path_is = p.path_is; there_is = p.there_is; numbered = record { left_is = p.numbered.left_is; right_is = p.numbered.right_is; chain_is = refl } }))

  module _ (rises : (i j : ℕ) → i < j → ν i < ν j) where
    module _ (outer inner : Rule) where
      before_on : ComesBefore outer inner → ComesBefore (renamed_rule ν outer) (renamed_rule ν inner)
      before_on (by_number h) = by_number (rises outer.number inner.number h)
      before_on (by_side e l r) = by_side (ap ν e) l r

      before_back : ComesBefore (renamed_rule ν outer) (renamed_rule ν inner) → ComesBefore outer inner
      before_back (by_number h) = by_number (rises_back ν rises outer.number inner.number h)
      before_back (by_side e l r) = by_side (one_number ν rises outer.number inner.number e) l r

      repeated_on : (place : ℕ) → IsRepeated outer inner place → IsRepeated (renamed_rule ν outer) (renamed_rule ν inner) place
      repeated_on place (inner_is_later e a b) = inner_is_later e a (before_on b)
      repeated_on place (with_its_copy e a c) = with_its_copy e a (record { one_number = ap ν c.one_number; one_side = c.one_side; no_further = c.no_further })

      repeated_back : (place : ℕ) → IsRepeated (renamed_rule ν outer) (renamed_rule ν inner) place → IsRepeated outer inner place
      repeated_back place (inner_is_later e a b) = inner_is_later e a (before_back b)
      repeated_back place (with_its_copy e a c) = with_its_copy e a (record { one_number = one_number ν rises inner.number outer.number c.one_number; one_side = c.one_side; no_further = c.no_further })

      module _ (Greater : Tree → Tree → Type 0) where
        up_on : (place : ℕ) (o : Overlapping (renamed_rule ν outer) (renamed_rule ν inner) place) → LeadsUp Greater (back {outer = outer} {inner = inner} {place = place} o) → LeadsUp Greater o
        up_on place o (outer_up g) = outer_up g
        up_on place o (inner_up g) = inner_up g

        up_back : (place : ℕ) (o : Overlapping outer inner place) → LeadsUp Greater (on o) → LeadsUp Greater o
        up_back place o (outer_up g) = outer_up g
        up_back place o (inner_up g) = inner_up g

        lists_on : (place : ℕ) (list : List Formed) → Lists Greater outer inner place list → Lists Greater (renamed_rule ν outer) (renamed_rule ν inner) place (map renamed_formed list)
        lists_on place _ (no_more_places h) = no_more_places h
        lists_on place list (at_variable h n rest) = at_variable h n (lists_on (place + 1) list rest)
        lists_on place list (no_unifier h a rest) = no_unifier h (apart_on a) (lists_on (place + 1) list rest)
        lists_on place list (repeats h r rest) = repeats h (repeated_on place r) (lists_on (place + 1) list rest)
        lists_on place list (goes_nowhere h n up rest) = goes_nowhere h n (λ o. up_on place o (up (back o))) (lists_on (place + 1) list rest)
        lists_on place list (leads_up o up rest) = leads_up (on o) (λ p. up_on place p (up (back p))) (lists_on (place + 1) list rest)
        lists_on place _ (is_listed {size = size} {list = list} o r up s rest) = is_listed (on o) (λ x. r (repeated_back place x)) (λ x. up (up_back place o x)) (size_on o size s) (lists_on (place + 1) list rest)

    module _ (Greater : Tree → Tree → Type 0) where
      abbrev renamed_rules : Rule × Rule → Rule × Rule
      renamed_rules r = (renamed_rule ν r.0, renamed_rule ν r.1)

      each_on : (rules : List (Rule × Rule)) (list : List Formed) → ListsEach Greater rules list → ListsEach Greater (map renamed_rules rules) (map renamed_formed list)
      each_on _ _ no_rules = no_rules
      each_on _ _ (next_rules {outer = outer} {inner = inner} {rules = rules} {list = list} {others = others} l rest) =
          subst (ListsEach Greater (map renamed_rules ((outer, inner) ∷ rules))) (sym (map-append renamed_formed list others))
          (next_rules (lists_on outer inner Greater 0 list l) (each_on rules others rest))

      overlaps_on : (i : ℕ) (a : Equation) (j : ℕ) (b : Equation) (list : List Formed) → AreOverlaps Greater i a j b list → AreOverlaps Greater (ν i) a (ν j) b (map renamed_formed list)
      overlaps_on i a j b list are = each_on ((read_from i Left a, read_from j Left b) ∷ (read_from i Left a, read_from j Right b) ∷ (read_from i Right a, read_from j Left b) ∷ (read_from i Right a, read_from j Right b) ∷ []) list are

      with_on : (outer : Live) (inners : List Live) (list : List Formed) → OverlapsWith Greater outer inners list → OverlapsWith Greater (renamed ν outer) (map (renamed ν) inners) (map renamed_formed list)
      with_on outer _ _ no_inner = no_inner
      with_on outer _ _ (next_inner {inner = inner} {inners = inners} {list = list} {others = others} are rest) =
          subst (OverlapsWith Greater (renamed ν outer) (map (renamed ν) (inner ∷ inners))) (sym (map-append renamed_formed list others))
          (next_inner (overlaps_on outer.number outer.equation inner.number inner.equation list are) (with_on outer inners others rest))

      -- all overlaps are the same, by the other numbers
      pub all_on : (inners outers : List Live) (list : List Formed) → AllOverlaps Greater inners outers list → AllOverlaps Greater (map (renamed ν) inners) (map (renamed ν) outers) (map renamed_formed list)
      all_on inners _ _ no_outer = no_outer
      all_on inners _ _ (next_outer {outer = outer} {outers = outers} {list = list} {others = others} are rest) =
          subst (AllOverlaps Greater (map (renamed ν) inners) (map (renamed ν) (outer ∷ outers))) (sym (map-append renamed_formed list others))
          (next_outer (with_on outer inners list are) (all_on inners outers others rest))
