-- The pair of the renamed sides is the overlap's.
use Rattle.std.proofs.Common.{◌≡◌, ℕ, ◌+◌, ◌-◌, ◌<◌, zero, suc, ◌==◌, nat_lt, Some, true, false, List, if◌then◌else◌, refl, sym, ap, ap₂, ◌∙◌, subst, arith, inl, inr}
use Rattle.std.proofs.lemmas.Bool.{eq-eqb}
use Rattle.std.proofs.lemmas.Bool.Decides.{nat_tests}
use Rattle.uc_term.specs.declared.equation.Equation.{Equation}
use Rattle.uc_term.specs.Tree.{Tree, var, app, Trees, none, more, nodes, apply, apply_all, subterm, put, put_all}
use Rattle.uc_term.specs.Path.{at_position, put_position}
use Rattle.uc_term.specs.Positions.{IsPlaceOf}
use Rattle.uc_term.specs.Variables.{Occurs, in_args, OccursIn, in_first, in_later, IsApp, renumbered_by, place_of}
use Rattle.uc_term.proofs.Terms.{apply-apply, apply-var, nodes_pos}
use Rattle.uc_term.proofs.Agree.{same_if, all_same_if}
use Rattle.uc_unify.specs.Replacing.{ReplacesAt}
use Rattle.uc_unify.specs.Unifiers.{IsMostGeneral}
use Rattle.uc_fact.specs.declared.fact.Overlap.{Overlap}
use Rattle.uc_fact.specs.declared.chain.Chain.{Chain}
use Rattle.uc_fact.specs.Live.{Rule}
use Rattle.uc_pair.specs.declared.formation.Formation.{Formation}
use Rattle.uc_pair.specs.declared.formation.Formation.TheVariants.{Pair, TooLarge}
use Rattle.uc_pair.specs.declared.instances.RenamedApart.{RenamedApart}
use Rattle.uc_pair.specs.Overlapping.{shifted, Overlapping, IsApart, peak, left_of, inner_from, inner_to, right_of, overlap_at, read_from}
use Rattle.uc_pair.specs.Pairs.{IsFormation, forms_none, forms_pair, IsPairBy, IsPairOf, ReplaysPair, Replays, names_of}
use Rattle.uc_pair.specs.Forming.{IsPairByTerms}
use Rattle.uc_pair.specs.Reading.{renamed, renamed_all, AreApart}
use Rattle.uc_pair.proofs.Renaming.{apply-renamed, subterm-renamed, put-renamed, unifier_there, Alike, alike}
use Rattle.uc_pair.proofs.Judged.{five, AlikeTwo, first_two, left_and_right, large_alike, fits_alike, terms_of, overlap_by, overlap_alike}
use Rattle.uc_pair.proofs.Replacing.{at_position-apply, apply-put_position, put_instance, put_here, put_later, where_is}
use Rattle.uc_pair.proofs.Renumbering.{numbered_alike, is_renamed}
use Rattle.uc_pair.proofs.Names.{renamed_nodes}
use Rattle.uc_pair.proofs.Apart.{above_all}

-- one number is added in place of another one
shift_to : ℕ → ℕ → ℕ → ℕ
shift_to k n x = if nat_lt x k then x else x - k + n

shift_low : (k n x : ℕ) → x < k → shift_to k n x ≡ x
unfolding shift_to
shift_low k n x h = let e : nat_lt x k ≡ true = grind (arith, nat_tests) in rw e refl

shift_high : (k n x : ℕ) → shift_to k n (x + k) ≡ x + n
unfolding shift_to
shift_high k n x = let e : nat_lt (x + k) k ≡ false = grind (arith, nat_tests) in let q : x + k - k ≡ x = omega arith in rw e (ap (λ y. y + n) q)

stays : (k n : ℕ) (t : Tree) → ((x : ℕ) → Occurs x t → x < k) → t ≡ renamed (shift_to k n) t
stays k n t h = sym (same_if (λ x. var (shift_to k n x)) var t (λ x o. ap var (shift_low k n x (h x o))) ∙ apply-var t)

moves : (k n : ℕ) (t : Tree) → shifted n t ≡ renamed (shift_to k n) (shifted k t)
moves k n t = sym (apply-renamed (λ y. var (shift_to k n y)) (λ x. x + k) t ∙ same_if (λ x. var (shift_to k n (x + k))) (λ x. var (x + n)) t (λ x o. ap var (shift_high k n x)))

-- overlaps that don't unify, and overlaps that do
pub apart_never : (outer inner : Rule) (place : ℕ) → IsApart outer inner place → Overlapping outer inner place → ⊥
apart_never outer inner place a o =
    let f = shift_to o.k a.k in
    let g = shift_to a.k o.k in
    let from_there : outer.from ≡ renamed f outer.from = stays o.k a.k outer.from (λ x q. o.apart x (inl q)) in
    let from_back : outer.from ≡ renamed g outer.from = stays a.k o.k outer.from (λ x q. a.apart x (inl q)) in
    let part = subterm outer.from place in
    let part_there : part ≡ renamed f part = ap (λ t. subterm t place) from_there ∙ subterm-renamed f outer.from place in
    let part_back : part ≡ renamed g part = ap (λ t. subterm t place) from_back ∙ subterm-renamed g outer.from place in
    a.never (λ x. o.σ (g x)) (unifier_there f g part (shifted o.k inner.from) part (shifted a.k inner.from) part_there (moves o.k a.k inner.from) part_back (moves a.k o.k inner.from) o.σ o.most_general.unifies)

-- any two overlaps of the rules at a place have terms that are alike
pub two_alike : (outer inner : Rule) (place : ℕ) (o p : Overlapping outer inner place) → Alike (terms_of o) (terms_of p)
two_alike outer inner place o p =
    let f = shift_to o.k p.k in
    let g = shift_to p.k o.k in
    let from_there : outer.from ≡ renamed f outer.from = stays o.k p.k outer.from (λ x q. o.apart x (inl q)) in
    let from_back : outer.from ≡ renamed g outer.from = stays p.k o.k outer.from (λ x q. p.apart x (inl q)) in
    let to_there : outer.to ≡ renamed f outer.to = stays o.k p.k outer.to (λ x q. o.apart x (inr q)) in
    let to_back : outer.to ≡ renamed g outer.to = stays p.k o.k outer.to (λ x q. p.apart x (inr q)) in
    let part = subterm outer.from place in
    let part_there : part ≡ renamed f part = ap (λ t. subterm t place) from_there ∙ subterm-renamed f outer.from place in
    let part_back : part ≡ renamed g part = ap (λ t. subterm t place) from_back ∙ subterm-renamed g outer.from place in
    let put_there : put outer.from place (shifted p.k inner.to) ≡ renamed f (put outer.from place (shifted o.k inner.to)) = ap₂ (λ t u. put t place u) from_there (moves o.k p.k inner.to) ∙ sym (put-renamed f outer.from place (shifted o.k inner.to)) in
    let put_back : put outer.from place (shifted o.k inner.to) ≡ renamed g (put outer.from place (shifted p.k inner.to)) = ap₂ (λ t u. put t place u) from_back (moves p.k o.k inner.to) ∙ sym (put-renamed g outer.from place (shifted p.k inner.to)) in
    alike f g part (shifted o.k inner.from) part (shifted p.k inner.from) part_there (moves o.k p.k inner.from) part_back (moves p.k o.k inner.from) o.σ p.σ o.most_general p.most_general
    (five outer.from outer.to (shifted o.k inner.from) (shifted o.k inner.to) (put outer.from place (shifted o.k inner.to)))
    (five outer.from outer.to (shifted p.k inner.from) (shifted p.k inner.to) (put outer.from place (shifted p.k inner.to)))
    (ap₂ more from_there (ap₂ more to_there (ap₂ more (moves o.k p.k inner.from) (ap₂ more (moves o.k p.k inner.to) (ap (λ t. more t none) put_there)))))
    (ap₂ more from_back (ap₂ more to_back (ap₂ more (moves p.k o.k inner.from) (ap₂ more (moves p.k o.k inner.to) (ap (λ t. more t none) put_back)))))

-- a substitution that renames the variables of a term
mutual
  put-apply : (σ : ℕ → Tree) (f : ℕ → ℕ) (t : Tree) (p : ℕ) (u : Tree) → ((x : ℕ) → Occurs x t → σ x ≡ var (f x)) → apply σ (put t p u) ≡ put (renamed f t) p (apply σ u)
  put-apply σ f (var x) p u h = refl
  put-apply σ f (app g ts) zero u h = refl
  put-apply σ f (app g ts) (suc p) u h = ap (app g) (put_all-apply σ f ts p u (λ x o. h x (in_args o)))

  put_all-apply : (σ : ℕ → Tree) (f : ℕ → ℕ) (ts : Trees) (p : ℕ) (u : Tree) → ((x : ℕ) → OccursIn x ts → σ x ≡ var (f x)) → apply_all σ (put_all ts p u) ≡ put_all (renamed_all f ts) p (apply σ u)
  put_all-apply σ f none p u h = refl
  put_all-apply σ f (more t ts) p u h =
      elim (where_is p (nodes t)) [
        | inl here ↦ ap (apply_all σ) (put_here t ts p u here) ∙ ap₂ more (put-apply σ f t p u (λ x o. h x (in_first o))) (all_same_if σ (λ x. var (f x)) ts (λ x o. h x (in_later o))) ∙ sym (put_here (renamed f t) (renamed_all f ts) p (apply σ u) (omega (arith, renamed_nodes f t)))
        | inr later ↦ ap (apply_all σ) (put_later t ts p u later) ∙ ap₂ more (same_if σ (λ x. var (f x)) t (λ x o. h x (in_first o))) (put_all-apply σ f ts (p - nodes t) u (λ x o. h x (in_later o)) ∙ ap (λ n. put_all (renamed_all f ts) (p - n) (apply σ u)) (sym (renamed_nodes f t))) ∙ sym (put_later (renamed f t) (renamed_all f ts) p (apply σ u) (omega (arith, renamed_nodes f t)))
      ]

-- one variable has a term, and the others are renamed
but_one : ℕ → Tree → (ℕ → ℕ) → ℕ → Tree
but_one z w f x = if x == z then w else var (f x)

but_here : (z : ℕ) (w : Tree) (f : ℕ → ℕ) → but_one z w f z ≡ w
unfolding but_one
but_here z w f = let e : (z == z) ≡ true = eq-eqb z z refl in rw e refl

but_there : (z : ℕ) (w : Tree) (f : ℕ → ℕ) (x : ℕ) → x < z → but_one z w f x ≡ var (f x)
unfolding but_one
but_there z w f x h = let e : (x == z) ≡ false = grind (arith, nat_tests) in rw e refl

-- a place stays that of its position when the term's variables are renamed
pub place_renamed : (f : ℕ → ℕ) (t : Tree) (path : List ℕ) (place : ℕ) → IsPlaceOf t path place → IsPlaceOf (renamed f t) path place
place_renamed f t path place a = record {
  inside = omega (arith, a.inside, renamed_nodes f t);
  there = at_position-apply (λ x. var (f x)) path t (subterm t place) a.there ∙ ap Some (sym (subterm-renamed f t place));
  puts = λ w.
      let k = above_all t in
      let z = k.0 in
      let σ = but_one z w f in
      let agrees : (x : ℕ) → Occurs x t → σ x ≡ var (f x) = λ x o. but_there z w f x (k.1 x o) in
      ap (put (renamed f t) place) (sym (but_here z w f))
      ∙ sym (put-apply σ f t place (var z) agrees)
      ∙ ap (apply σ) (a.puts (var z))
      ∙ apply-put_position σ path t (subterm t place) (var z) a.there
      ∙ ap₂ (λ u v. put_position u path v) (same_if σ (λ x. var (f x)) t agrees) (but_here z w f);
}

-- the pair of the renamed sides
module _ (outer inner : Rule) (place : ℕ) (terms : RenamedApart) (x : AreApart outer inner terms) (h : place < nodes outer.from) (is : IsApp (subterm outer.from place)) (σ : ℕ → Tree) (mgu : IsMostGeneral (subterm terms.outer_from place) terms.inner_from σ) where
  abbrev o : Overlapping outer inner place
  o = overlap_by outer inner place terms x h is σ mgu

  abbrev top' : Tree
  top' = apply σ terms.outer_from

  abbrev left' : Tree
  left' = apply σ terms.outer_to

  abbrev right' : Tree
  right' = apply σ (put terms.outer_from place terms.inner_to)

  abbrev al : Alike (terms_of o) (five top' left' (apply σ terms.inner_from) (apply σ terms.inner_to) right')
  al = overlap_alike outer inner place terms x h is σ mgu

  abbrev firsts : AlikeTwo (peak o) (left_of o) top' left'
  firsts = first_two _ _ _ _ _ _ _ _ _ _ al

  abbrev others : AlikeTwo (left_of o) (right_of o) left' right'
  others = left_and_right _ _ _ _ _ _ _ _ _ _ al

  path_back : (path : List ℕ) → IsPlaceOf terms.outer_from path place → IsPlaceOf outer.from path place
  path_back path a =
      let e : outer.from ≡ renamed x.back terms.outer_from = (let q = x.sides_are in cc) in
      subst (λ t. IsPlaceOf t path place) (sym e) (place_renamed x.back terms.outer_from path place a)

  peak_back : (path : List ℕ) (there : ℕ) → IsPlaceOf top' path there → IsPlaceOf (peak o) path there
  peak_back path there a =
      let r = is_renamed left' left' top' (left_of o) (left_of o) (peak o) firsts.β firsts.α firsts.b_back firsts.b_back firsts.a_back firsts.b_is firsts.b_is firsts.a_is top' (peak o) firsts.a_back firsts.a_is in
      subst (λ t. IsPlaceOf t path there) (sym r.1) (place_renamed r.0 top' path there a)

  pub formation_by : (formation : Formation) → IsPairByTerms (overlap_at outer inner place) terms σ formation → IsFormation outer inner place formation
  formation_by TooLarge l = forms_none o (large_alike o _ _ _ _ _ al l)
  formation_by (Pair left right chain) p = forms_pair o (fits_alike o _ _ _ _ _ al p.top_small p.left_small p.right_small) (record {
    path = p.path;
    there = p.there;
    path_is = path_back p.path p.path_is;
    there_is = peak_back p.path p.there p.there_is;
    numbered = numbered_alike (left_of o) (right_of o) (peak o) left' right' top' al.α al.β others_is.0 others_is.1 others_is.2 others_is.3 others_is.4 others_is.5 (overlap_at outer inner place) p.there left right chain p.numbered;
  })
    where
      others_is : (left_of o ≡ apply al.α left') × (right_of o ≡ apply al.α right') × (peak o ≡ apply al.α top') × (left' ≡ apply al.β (left_of o)) × (right' ≡ apply al.β (right_of o)) × (top' ≡ apply al.β (peak o))
      others_is = let f = al.forth in let g = al.back in (cc, cc, cc, cc, cc, cc)

root_subterm : (t : Tree) → subterm t 0 ≡ t
root_subterm (var x) = refl
root_subterm (app f ts) = refl

root_put : (t u : Tree) → put t 0 u ≡ u
root_put (var x) u = refl
root_put (app f ts) u = refl

-- the chain of a pair replays
module _ (outer inner : Rule) (place : ℕ) (o : Overlapping outer inner place) (left right : Tree) (chain : Chain) (p : IsPairBy o left right chain) where
  abbrev names : List ℕ
  names = names_of (left_of o) (right_of o) (peak o)

  abbrev top : Tree
  top = renumbered_by names (peak o)

  abbrev ν : ℕ → ℕ
  ν = place_of names

  by_outer : ReplacesAt outer.to outer.from left 0 top
  by_outer = record {
    inside = nodes_pos left;
    σ = λ y. renamed ν (o.σ y);
    from_is = sym (apply-apply (λ y. var (ν y)) o.σ outer.to) ∙ sym p.numbered.left_is ∙ sym (root_subterm left);
    to_is = root_put left (apply (λ y. renamed ν (o.σ y)) outer.from) ∙ sym (apply-apply (λ y. var (ν y)) o.σ outer.from);
  }

  part_there : subterm (peak o) p.there ≡ inner_from o
  part_there =
      let a : at_position (peak o) p.path ≡ Some (subterm (peak o) p.there) = p.there_is.there in
      let b : at_position (peak o) p.path ≡ Some (apply o.σ (subterm outer.from place)) = at_position-apply o.σ p.path outer.from (subterm outer.from place) p.path_is.there in
      let e : subterm (peak o) p.there ≡ apply o.σ (subterm outer.from place) = cc in
      e ∙ o.most_general.unifies

  inner_instance : (t : Tree) → apply (λ y. renamed ν (o.σ (y + o.k))) t ≡ renamed ν (apply o.σ (shifted o.k t))
  inner_instance t = sym (ap (renamed ν) (apply-renamed o.σ (λ y. y + o.k) t) ∙ apply-apply (λ y. var (ν y)) (λ y. o.σ (y + o.k)) t)

  by_inner : ReplacesAt inner.from inner.to top p.there right
  by_inner = record {
    inside = omega (arith, p.there_is.inside, renamed_nodes ν (peak o));
    σ = λ y. renamed ν (o.σ (y + o.k));
    from_is = inner_instance inner.from ∙ ap (renamed ν) (sym part_there) ∙ sym (subterm-renamed ν (peak o) p.there);
    to_is = ap (put top p.there) (inner_instance inner.to) ∙ sym (put-renamed ν (peak o) p.there (inner_to o)) ∙ ap (renamed ν) (put_instance o.σ outer.from (shifted o.k inner.to) p.path place p.there p.path_is p.there_is) ∙ sym p.numbered.right_is;
  }

  pub pair_replays : Replays outer inner (overlap_at outer inner place) left right chain
  pair_replays = record { top = top; there = p.there; chain_is = p.numbered.chain_is; by_outer = by_outer; by_inner = by_inner }

pub replays_of : (a b : Equation) (overlap : Overlap) (formation : Formation) → IsPairOf a b overlap formation → ReplaysPair a b overlap formation
replays_of a b overlap TooLarge f = tt
replays_of a b overlap (Pair left right chain) (forms_pair o fits by) = pair_replays (read_from overlap.outer overlap.outer_side a) (read_from overlap.inner overlap.inner_side b) overlap.position.0 o left right chain by
