-- What a place comes to, from the instances of the renamed sides.
use Rattle.std.proofs.Common.{◌≡◌, ℕ, ◌+◌, ◌<◌, Option, Some, None, sym, ap, ap₂, ◌∙◌, subst, arith, ◌⊎◌, inl, inr}
use Rattle.uc_term.specs.Tree.{Tree, var, Trees, none, more, nodes, apply, subterm, put}
use Rattle.uc_term.specs.Variables.{IsApp}
use Rattle.uc_unify.specs.Unifiers.{IsMostGeneral, HasNoUnifier, IsTooLarge as IsTooLargeUnifier}
use Rattle.uc_order.specs.Laws.{Meaning, Laws}
use Rattle.uc_fact.specs.Live.{Rule}
use Rattle.uc_pair.specs.declared.formed.Size.{Size}
use Rattle.uc_pair.specs.declared.formed.Size.TheVariants.{Weight, Same, Large}
use Rattle.uc_pair.specs.declared.instances.RenamedApart.{RenamedApart}
use Rattle.uc_pair.specs.declared.fitting.Part.{Part}
use Rattle.uc_pair.specs.Fitting.{HasNoFit, IsPart}
use Rattle.uc_pair.specs.Overlapping.{shifted, IsBelow, Overlapping, IsApart, peak, left_of, inner_from, inner_to, right_of, IsLarge, IsSmall, IsTooLarge, Fits, HasSize, is_large, is_same, is_weight}
use Rattle.uc_pair.specs.Listing.{AtMost, by_instances, by_sides, LeadsUp, outer_up, inner_up, NeverDown, IsRepeated, at_variable, no_unifier, repeats, leads_up, is_listed}
use Rattle.uc_pair.specs.declared.formation.Formation.TheVariants.{TooLarge as NoPair}
use Rattle.uc_pair.specs.Pairs.{IsFormation, forms_none}
use Rattle.uc_pair.specs.Reading.{renamed, AreApart, AreInstances}
use Rattle.uc_pair.specs.Judging.{StaysAt, IsJudged, LeadDown, StaysUp, outer_stays, inner_stays, IsSizeBy, IsJudgedBy}
use Rattle.uc_pair.proofs.Renaming.{apply-renamed, subterm-renamed, put-renamed, moved, most_general_back, no_unifier_back, Alike, alike}
use Rattle.uc_pair.proofs.Names.{renamed_nodes}
use Rattle.uc_pair.proofs.Replacing.{nodes-subterm, nodes-instance}

abbrev pub five : Tree → Tree → Tree → Tree → Tree → Trees
five a b c d e = more a (more b (more c (more d (more e none))))

-- two terms that are instances of two others by one substitution, and the other way round
pub record AlikeTwo (a b a' b' : Tree) : Type 0 where
  pub α : ℕ → Tree
  pub β : ℕ → Tree
  pub a_is : a ≡ apply α a'
  pub b_is : b ≡ apply α b'
  pub a_back : a' ≡ apply β a
  pub b_back : b' ≡ apply β b

pub first_nodes : (a b a' b' : Tree) → AlikeTwo a b a' b' → nodes a ≡ nodes a'
first_nodes a b a' b' l = omega (arith, ap nodes l.a_is, ap nodes l.a_back, nodes-instance l.α a', nodes-instance l.β a)

pub alike_back : (a b a' b' : Tree) → AlikeTwo a b a' b' → AlikeTwo a' b' a b
alike_back a b a' b' l = record { α = l.β; β = l.α; a_is = l.a_back; b_is = l.b_back; a_back = l.a_is; b_back = l.b_is }

pub alike_swap : (a b a' b' : Tree) → AlikeTwo a b a' b' → AlikeTwo b a b' a'
alike_swap a b a' b' l = record { α = l.α; β = l.β; a_is = l.b_is; b_is = l.a_is; a_back = l.b_back; b_back = l.a_back }

pub alike_equal : (a b a' b' : Tree) → AlikeTwo a b a' b' → a ≡ b → a' ≡ b'
alike_equal a b a' b' l e = l.a_back ∙ ap (apply l.β) e ∙ sym l.b_back

pub alike_at_most : (m : Meaning) → Laws m → (a b a' b' : Tree) → AlikeTwo a b a' b' → AtMost m.greater a b → AtMost m.greater a' b'
alike_at_most m laws a b a' b' l (inl g) = inl (subst (λ x. m.greater x a') (sym l.b_back) (subst (λ x. m.greater (apply l.β b) x) (sym l.a_back) (laws.instances l.β b a g)))
alike_at_most m laws a b a' b' l (inr e) = inr (alike_equal a b a' b' l e)

pub small_back : (a b a' b' : Tree) → AlikeTwo a b a' b' → IsSmall a' → IsSmall a
small_back a b a' b' l s = omega (arith, first_nodes a b a' b' l)

pub large_back : (a b a' b' : Tree) → AlikeTwo a b a' b' → IsLarge a' → IsLarge a
large_back a b a' b' l s = omega (arith, first_nodes a b a' b' l)

module _ (a b c d e a' b' c' d' e' : Tree) (al : Alike (five a b c d e) (five a' b' c' d' e')) where
  pub first_two : AlikeTwo a b a' b'
  first_two = let f = al.forth in let g = al.back in record { α = al.α; β = al.β; a_is = cc; b_is = cc; a_back = cc; b_back = cc }

  pub next_two : AlikeTwo c d c' d'
  next_two = let f = al.forth in let g = al.back in record { α = al.α; β = al.β; a_is = cc; b_is = cc; a_back = cc; b_back = cc }

  pub left_and_right : AlikeTwo b e b' e'
  left_and_right = let f = al.forth in let g = al.back in record { α = al.α; β = al.β; a_is = cc; b_is = cc; a_back = cc; b_back = cc }

abbrev pub terms_of : {outer inner : Rule} {place : ℕ} → Overlapping outer inner place → Trees
terms_of o = five (peak o) (left_of o) (inner_from o) (inner_to o) (right_of o)

-- where the rule's side is greater, so is each instance of it
pub never_stays : (m : Meaning) → Laws m → (rule : Rule) (σ : ℕ → Tree) (from to : Tree) → m.greater rule.from rule.to → AreInstances rule from to → StaysAt m.greater (apply σ from) (apply σ to) → ⊥
never_stays m laws rule σ from to g r (s, t, q) = up q
  where
    down : m.greater (apply σ from) (apply σ to)
    down = laws.instances σ from to (subst (λ v. m.greater from v) (sym r.2) (subst (λ u. m.greater u (apply r.0 rule.to)) (sym r.1) (laws.instances r.0 rule.from rule.to g)))

    up : AtMost m.greater (apply σ from) (apply σ to) → ⊥
    up (inl h) = laws.irreflexive (apply σ from) (laws.transitive (apply σ from) (apply σ to) (apply σ from) down h)
    up (inr e) = laws.irreflexive (apply σ to) (subst (λ u. m.greater u (apply σ to)) e down)

pub inner_renamed : (outer inner : Rule) (terms : RenamedApart) → AreApart outer inner terms → AreInstances inner terms.inner_from terms.inner_to
inner_renamed outer inner terms x = (λ y. var (x.there (y + x.k)), from_is ∙ apply-renamed (λ y. var (x.there y)) (λ y. y + x.k) inner.from, to_is ∙ apply-renamed (λ y. var (x.there y)) (λ y. y + x.k) inner.to)
  where
    from_is : terms.inner_from ≡ renamed x.there (shifted x.k inner.from)
    from_is = let e = x.renamed_are in cc

    to_is : terms.inner_to ≡ renamed x.there (shifted x.k inner.to)
    to_is = let e = x.renamed_are in cc

-- the sizes of pairs that are alike
pub large_alike : {outer inner : Rule} {place : ℕ} (o : Overlapping outer inner place) (a b c d e : Tree) → Alike (terms_of o) (five a b c d e) → IsLarge a ⊎ (IsLarge b ⊎ IsLarge e) → IsTooLarge o
large_alike o a b c d e al (inl l) = inl (large_back (peak o) (left_of o) a b (first_two _ _ _ _ _ a b c d e al) l)
large_alike o a b c d e al (inr (inl l)) = inr (inl (large_back (left_of o) (right_of o) b e (left_and_right _ _ _ _ _ a b c d e al) l))
large_alike o a b c d e al (inr (inr l)) = inr (inr (large_back (right_of o) (left_of o) e b (alike_swap _ _ b e (left_and_right _ _ _ _ _ a b c d e al)) l))

pub fits_alike : {outer inner : Rule} {place : ℕ} (o : Overlapping outer inner place) (a b c d e : Tree) → Alike (terms_of o) (five a b c d e) → IsSmall a → IsSmall b → IsSmall e → Fits o
fits_alike o a b c d e al i j k = record {
  peak_small = small_back (peak o) (left_of o) a b (first_two _ _ _ _ _ a b c d e al) i;
  left_small = small_back (left_of o) (right_of o) b e (left_and_right _ _ _ _ _ a b c d e al) j;
  right_small = small_back (right_of o) (left_of o) e b (alike_swap _ _ b e (left_and_right _ _ _ _ _ a b c d e al)) k;
}

pub size_alike : {outer inner : Rule} {place : ℕ} (o : Overlapping outer inner place) (a b c d e : Tree) → Alike (terms_of o) (five a b c d e) → (size : Size) → IsSizeBy a b e size → HasSize o size
size_alike o a b c d e al Large l = is_large (large_alike o a b c d e al l)
size_alike o a b c d e al Same s = is_same (fits_alike o a b c d e al s.0 s.1 s.2) (alike_equal b e (left_of o) (right_of o) (alike_back _ _ b e (left_and_right _ _ _ _ _ a b c d e al)) s.3)
size_alike o a b c d e al (Weight w) s =
    let two = left_and_right _ _ _ _ _ a b c d e al in
    let is : w ≡ nodes (left_of o) + nodes (right_of o) = s.4 ∙ ap₂ (λ x y. x + y) (sym (first_nodes _ _ b e two)) (sym (first_nodes _ _ e b (alike_swap _ _ b e two))) in
    subst (λ n. HasSize o (Weight n)) (sym is) (is_weight (fits_alike o a b c d e al s.0 s.1 s.2) (λ q. s.3 (alike_equal _ _ b e two q)))

-- the sides renamed apart, and their unifiers
module _ (outer inner : Rule) (place : ℕ) (terms : RenamedApart) (x : AreApart outer inner terms) (h : place < nodes outer.from) where
  abbrev part : Tree
  part = subterm outer.from place

  abbrev part' : Tree
  part' = subterm terms.outer_from place

  from_there : terms.outer_from ≡ renamed x.there outer.from
  from_there = let e = x.renamed_are in cc

  to_there : terms.outer_to ≡ renamed x.there outer.to
  to_there = let e = x.renamed_are in cc

  inner_from_there : terms.inner_from ≡ renamed x.there (shifted x.k inner.from)
  inner_from_there = let e = x.renamed_are in cc

  inner_to_there : terms.inner_to ≡ renamed x.there (shifted x.k inner.to)
  inner_to_there = let e = x.renamed_are in cc

  from_back : outer.from ≡ renamed x.back terms.outer_from
  from_back = let e = x.sides_are in cc

  to_back : outer.to ≡ renamed x.back terms.outer_to
  to_back = let e = x.sides_are in cc

  inner_from_back : shifted x.k inner.from ≡ renamed x.back terms.inner_from
  inner_from_back = let e = x.sides_are in cc

  inner_to_back : shifted x.k inner.to ≡ renamed x.back terms.inner_to
  inner_to_back = let e = x.sides_are in cc

  part_there : part' ≡ renamed x.there part
  part_there = ap (λ t. subterm t place) from_there ∙ subterm-renamed x.there outer.from place

  part_back : part ≡ renamed x.back part'
  part_back = ap (λ t. subterm t place) from_back ∙ subterm-renamed x.back terms.outer_from place

  put_there : put terms.outer_from place terms.inner_to ≡ renamed x.there (put outer.from place (shifted x.k inner.to))
  put_there = ap₂ (λ t u. put t place u) from_there inner_to_there ∙ sym (put-renamed x.there outer.from place (shifted x.k inner.to))

  put_back : put outer.from place (shifted x.k inner.to) ≡ renamed x.back (put terms.outer_from place terms.inner_to)
  put_back = ap₂ (λ t u. put t place u) from_back inner_to_back ∙ sym (put-renamed x.back terms.outer_from place terms.inner_to)

  pub same_size : nodes terms.outer_from ≡ nodes outer.from
  same_size = ap nodes from_there ∙ renamed_nodes x.there outer.from

  abbrev terms_by : (ℕ → Tree) → Trees
  terms_by σ = five (apply σ terms.outer_from) (apply σ terms.outer_to) (apply σ terms.inner_from) (apply σ terms.inner_to) (apply σ (put terms.outer_from place terms.inner_to))

  pub apart_back : HasNoUnifier part' terms.inner_from → IsApart outer inner place
  apart_back n = record { k = x.k; apart = x.apart; never = no_unifier_back x.there x.back part (shifted x.k inner.from) part' terms.inner_from part_there inner_from_there part_back inner_from_back n }

  module _ (is : IsApp part) (σ : ℕ → Tree) (mgu : IsMostGeneral part' terms.inner_from σ) where
    pub overlap_by : Overlapping outer inner place
    overlap_by = record { inside = h; no_variable = is; k = x.k; apart = x.apart; σ = moved x.there x.back part (shifted x.k inner.from) part' terms.inner_from part_there inner_from_there part_back inner_from_back σ; most_general = most_general_back x.there x.back part (shifted x.k inner.from) part' terms.inner_from part_there inner_from_there part_back inner_from_back σ mgu }

    pub overlap_alike : Alike (terms_of overlap_by) (terms_by σ)
    unfolding overlap_by
    overlap_alike = alike x.there x.back part (shifted x.k inner.from) part' terms.inner_from part_there inner_from_there part_back inner_from_back overlap_by.σ σ overlap_by.most_general mgu
        (five outer.from outer.to (shifted x.k inner.from) (shifted x.k inner.to) (put outer.from place (shifted x.k inner.to)))
        (five terms.outer_from terms.outer_to terms.inner_from terms.inner_to (put terms.outer_from place terms.inner_to))
        (ap₂ more from_there (ap₂ more to_there (ap₂ more inner_from_there (ap₂ more inner_to_there (ap (λ t. more t none) put_there)))))
        (ap₂ more from_back (ap₂ more to_back (ap₂ more inner_from_back (ap₂ more inner_to_back (ap (λ t. more t none) put_back)))))

  module _ (is : IsApp part) (m : Meaning) (laws : Laws m) (outer_down : NeverDown m.greater outer → ⊥) (inner_down : NeverDown m.greater inner → ⊥) (fresh : IsRepeated outer inner place → ⊥) (each : (o p : Overlapping outer inner place) → LeadsUp m.greater p → LeadsUp m.greater o) (σ : ℕ → Tree) (mgu : IsMostGeneral part' terms.inner_from σ) where
    abbrev o : Overlapping outer inner place
    o = overlap_by is σ mgu

    abbrev al : Alike (terms_of o) (terms_by σ)
    al = overlap_alike is σ mgu

    abbrev firsts : AlikeTwo (peak o) (left_of o) (apply σ terms.outer_from) (apply σ terms.outer_to)
    firsts = first_two _ _ _ _ _ _ _ _ _ _ al

    abbrev seconds : AlikeTwo (inner_from o) (inner_to o) (apply σ terms.inner_from) (apply σ terms.inner_to)
    seconds = next_two _ _ _ _ _ _ _ _ _ _ al

    ups : StaysUp m.greater terms σ → LeadsUp m.greater o
    ups (outer_stays s t q) = outer_up (by_instances (small_back _ _ _ _ firsts s) (small_back _ _ _ _ (alike_swap _ _ _ _ firsts) t) (alike_at_most m laws _ _ _ _ (alike_back _ _ _ _ firsts) q))
    ups (inner_stays s t q) = inner_up (by_instances (small_back _ _ _ _ seconds s) (small_back _ _ _ _ (alike_swap _ _ _ _ seconds) t) (alike_at_most m laws _ _ _ _ (alike_back _ _ _ _ seconds) q))

    downs : LeadDown m.greater terms σ → LeadsUp m.greater o → ⊥
    downs d (outer_up (by_instances s t q)) = d.outer_down (small_back _ _ _ _ (alike_back _ _ _ _ firsts) s) (small_back _ _ _ _ (alike_swap _ _ _ _ (alike_back _ _ _ _ firsts)) t) (alike_at_most m laws _ _ _ _ firsts q)
    downs d (outer_up (by_sides s q)) = outer_down q
    downs d (inner_up (by_instances s t q)) = d.inner_down (small_back _ _ _ _ (alike_back _ _ _ _ seconds) s) (small_back _ _ _ _ (alike_swap _ _ _ _ (alike_back _ _ _ _ seconds)) t) (alike_at_most m laws _ _ _ _ seconds q)
    downs d (inner_up (by_sides s q)) = inner_down q

    pub judged_by : (size : Option Size) → IsJudgedBy m.greater terms place σ size → IsJudged m.greater outer inner place size
    judged_by None up = λ list rest. leads_up o (λ p. each p o (ups up)) rest
    judged_by (Some size) by = λ list rest. is_listed o fresh (downs by.0) (size_alike o _ _ _ _ _ al size by.1) rest

  pub judged_large : (is : IsApp part) (m : Meaning) → (NeverDown m.greater outer → ⊥) → (NeverDown m.greater inner → ⊥) → (IsRepeated outer inner place → ⊥) → IsTooLargeUnifier part' terms.inner_from → IsJudged m.greater outer inner place (Some Large)
  judged_large is m outer_down inner_down fresh l list rest = is_listed o fresh ups (is_large (inl peak_large)) rest
    where
      o : Overlapping outer inner place
      o = overlap_by is l.σ l.most_general

      al : Alike (terms_of o) (terms_by l.σ)
      al = overlap_alike is l.σ l.most_general

      inner_large : IsLarge (inner_from o)
      inner_large = large_back _ _ _ _ (next_two _ _ _ _ _ _ _ _ _ _ al) (subst IsLarge l.most_general.unifies l.large)

      peak_large : IsLarge (peak o)
      peak_large = omega (arith, nodes-subterm o.σ outer.from place h, ap nodes o.most_general.unifies, inner_large)

      ups : LeadsUp m.greater o → ⊥
      ups (outer_up (by_instances s t q)) = absurd (omega (arith, s, peak_large))
      ups (outer_up (by_sides s q)) = outer_down q
      ups (inner_up (by_instances s t q)) = absurd (omega (arith, s, inner_large))
      ups (inner_up (by_sides s q)) = inner_down q

  pub large_overlap : (is : IsApp part) → IsTooLargeUnifier part' terms.inner_from → (o : Overlapping outer inner place) × IsTooLarge o
  large_overlap is l =
      let o = overlap_by is l.σ l.most_general in
      let inner_large : IsLarge (inner_from o) = large_back _ _ _ _ (next_two _ _ _ _ _ _ _ _ _ _ (overlap_alike is l.σ l.most_general)) (subst IsLarge l.most_general.unifies l.large) in
      let peak_large : IsLarge (peak o) = omega (arith, nodes-subterm o.σ outer.from place h, ap nodes o.most_general.unifies, inner_large) in
      (o, inl peak_large)

  pub large_formation : IsApp part → IsTooLargeUnifier part' terms.inner_from → IsFormation outer inner place NoPair
  large_formation is l = let o = large_overlap is l in forms_none o.0 o.1

  pub judged_apart : (m : Meaning) → HasNoUnifier part' terms.inner_from → IsJudged m.greater outer inner place None
  judged_apart m n list rest = no_unifier h (apart_back n) rest

-- a part of the outer side is one of the renamed side too
pub part_renamed : (outer inner : Rule) (part : Part) (terms : RenamedApart) → AreApart outer inner terms → IsPart outer.from part → IsPart terms.outer_from part
part_renamed outer inner part terms x h =
    let from_there : terms.outer_from ≡ renamed x.there outer.from = (let e = x.renamed_are in cc) in
    let same : nodes (subterm terms.outer_from part.place) ≡ nodes (subterm outer.from part.place) = ap (λ t. nodes (subterm t part.place)) from_there ∙ ap nodes (subterm-renamed x.there outer.from part.place) ∙ renamed_nodes x.there (subterm outer.from part.place) in
    record { inside = omega (arith, h.inside, ap nodes from_there, renamed_nodes x.there outer.from); end_is = h.end_is ∙ ap (λ n. part.place + n) (sym same); short = h.short }

pub judged_repeated : (m : Meaning) (outer inner : Rule) (place : ℕ) → place < nodes outer.from → IsRepeated outer inner place → IsJudged m.greater outer inner place None
judged_repeated m outer inner place h r list rest = repeats h r rest

-- k is above the variables of the outer rule
pub judged_unfit : (m : Meaning) (outer inner : Rule) (place k : ℕ) → IsBelow k outer → place < nodes outer.from → HasNoFit outer.from inner.from place → IsJudged m.greater outer inner place None
judged_unfit m outer inner place k b h (inl n) list rest = at_variable h n rest
judged_unfit m outer inner place k b h (inr n) list rest = no_unifier h (record { k = k; apart = b; never = λ τ e. n τ (λ y. τ (y + k)) (e ∙ apply-renamed τ (λ y. y + k) inner.from) }) rest
