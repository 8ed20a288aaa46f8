-- The overlaps of two facts, their sizes and their pairs are determined.
use Rattle.std.proofs.Common.{◌≡◌, ℕ, zero, suc, ◌+◌, ◌-◌, ◌<◌, ◌≤◌, nat_lt, true, false, List, [], ◌∷◌, ◌++◌, get_or, if◌then◌else◌, refl, sym, ap, ap₂, ◌∙◌, subst, arith, ◌⊎◌, inl, inr}
use Rattle.std.proofs.lemmas.Bool.Decides.{nat_tests}
use Rattle.uc_term.specs.Tree.{Tree, var, app, Trees, none, more, nodes, nodes_all, apply, subterms, subterms_all, subterm}
use Rattle.uc_term.specs.Variables.{Occurs, in_args, OccursIn, in_first, in_later, IsApp}
use Rattle.uc_term.proofs.Terms.{apply-apply, length-subterms}
use Rattle.uc_term.proofs.Agree.{same_if}
use Rattle.uc_order.specs.Laws.{Meaning, Laws}
use Rattle.uc_fact.specs.Live.{Rule}
use Rattle.uc_pair.specs.declared.formed.Size.{Size}
use Rattle.uc_pair.specs.declared.formed.Size.TheVariants.{Weight, Same}
use Rattle.uc_pair.specs.declared.formed.Formed.{Formed}
use Rattle.uc_pair.specs.Overlapping.{shifted, Overlapping, IsApart, peak, left_of, inner_from, inner_to, right_of, IsLarge, IsSmall, IsTooLarge, Fits, HasSize, is_large, is_same, is_weight}
use Rattle.uc_pair.specs.Listing.{AtMost, GoesUp, by_instances, by_sides, LeadsUp, outer_up, inner_up, NeverDown, IsRepeated, Lists, no_more_places, at_variable, no_unifier, repeats, goes_nowhere, leads_up, is_listed, ListsEach, no_rules, next_rules}
use Rattle.uc_pair.specs.Peaks.{LeadsDownTwice}
use Rattle.uc_pair.specs.Judging.{formed_at}
use Rattle.uc_pair.proofs.Renaming.{apply-renamed}
use Rattle.uc_pair.proofs.Judged.{AlikeTwo, first_two, next_two, alike_back, alike_swap, alike_at_most, small_back, large_back, large_alike, size_alike}
use Rattle.uc_unify.specs.Unifiers.{IsMostGeneral}
use Rattle.std.proofs.Math.Seq.{get_or-append_right}
use Rattle.std.proofs.Math.ListN.{get_or-append}
use Rattle.uc_pair.proofs.Replacing.{where_is}
use Rattle.uc_pair.proofs.Paired.{apart_never, two_alike}

large_or_small : (t : Tree) → IsLarge t ⊎ IsSmall t
large_or_small t = grind arith

module _ (m : Meaning) (laws : Laws m) where
  instance_at_most : (σ : ℕ → Tree) (s t : Tree) → AtMost m.greater s t → AtMost m.greater (apply σ s) (apply σ t)
  instance_at_most σ s t (inl g) = inl (laws.instances σ t s g)
  instance_at_most σ s t (inr e) = inr (ap (apply σ) e)

  -- a rule that leads down nowhere doesn't lead down from its instances
  goes_up : (σ : ℕ → Tree) (l r u v : Tree) → u ≡ apply σ l → v ≡ apply σ r → AtMost m.greater l r → GoesUp m.greater l r u v
  goes_up σ l r u v eu ev a = go (large_or_small u) (large_or_small v)
    where
      go : IsLarge u ⊎ IsSmall u → IsLarge v ⊎ IsSmall v → GoesUp m.greater l r u v
      go (inl x) y = by_sides (inl x) a
      go (inr x) (inl y) = by_sides (inr y) a
      go (inr x) (inr y) = by_instances x y (subst (λ w. AtMost m.greater w v) (sym eu) (subst (λ w. AtMost m.greater (apply σ l) w) (sym ev) (instance_at_most σ l r a)))

  pub nowhere_up : (outer inner : Rule) (place : ℕ) (o : Overlapping outer inner place) → NeverDown m.greater outer ⊎ NeverDown m.greater inner → LeadsUp m.greater o
  nowhere_up outer inner place o (inl a) = outer_up (goes_up o.σ outer.from outer.to (peak o) (left_of o) refl refl a)
  nowhere_up outer inner place o (inr a) = inner_up (goes_up (λ x. o.σ (x + o.k)) inner.from inner.to (inner_from o) (inner_to o) (apply-renamed o.σ (λ x. x + o.k) inner.from) (apply-renamed o.σ (λ x. x + o.k) inner.to) a)

  -- what is at most something isn't greater
  not_greater : (s t : Tree) → AtMost m.greater s t → m.greater s t → ⊥
  not_greater s t (inl g) h = laws.irreflexive s (laws.transitive s t s h g)
  not_greater s t (inr e) h = laws.irreflexive t (subst (λ u. m.greater u t) e h)

  pub nowhere_twice : (outer inner : Rule) (place : ℕ) → NeverDown m.greater outer ⊎ NeverDown m.greater inner → LeadsDownTwice m.greater outer inner place → ⊥
  nowhere_twice outer inner place (inl a) d = not_greater (apply d.τ outer.from) (apply d.τ outer.to) (instance_at_most d.τ outer.from outer.to a) d.outer_down
  nowhere_twice outer inner place (inr a) d = not_greater (apply d.υ inner.from) (apply d.υ inner.to) (instance_at_most d.υ inner.from inner.to a) d.inner_down

-- one substitution for both rules: the first below k, and the second from k on
both : ℕ → (ℕ → Tree) → (ℕ → Tree) → ℕ → Tree
both k τ υ x = if nat_lt x k then τ x else υ (x - k)

both_low : (k : ℕ) (τ υ : ℕ → Tree) (x : ℕ) → x < k → both k τ υ x ≡ τ x
unfolding both
both_low k τ υ x h = let e : nat_lt x k ≡ true = grind (arith, nat_tests) in rw e refl

both_high : (k : ℕ) (τ υ : ℕ → Tree) (x : ℕ) → both k τ υ (x + k) ≡ υ x
unfolding both
both_high k τ υ x = let e : nat_lt (x + k) k ≡ false = grind (arith, nat_tests) in let q : x + k - k ≡ x = omega arith in rw e (ap υ q)

on_low : (k : ℕ) (τ υ : ℕ → Tree) (t : Tree) → ((x : ℕ) → Occurs x t → x < k) → apply τ t ≡ apply (both k τ υ) t
on_low k τ υ t h = sym (same_if (both k τ υ) τ t (λ x o. both_low k τ υ x (h x o)))

on_high : (k : ℕ) (τ υ : ℕ → Tree) (t : Tree) → apply υ t ≡ apply (both k τ υ) (shifted k t)
on_high k τ υ t = sym (apply-renamed (both k τ υ) (λ x. x + k) t ∙ same_if (λ x. both k τ υ (x + k)) υ t (λ x o. both_high k τ υ x))

-- the variables of a part are the term's
mutual
  occurs_part : (x : ℕ) (t : Tree) (p : ℕ) (d : Tree) → p < nodes t → Occurs x (get_or (subterms t) p d) → Occurs x t
  occurs_part x (var y) zero d h o = o
  occurs_part x (var y) (suc p) d h o = absurd (omega arith)
  occurs_part x (app f ts) zero d h o = o
  occurs_part x (app f ts) (suc p) d h o = in_args (occurs_part_all x ts p d (omega arith) o)

  occurs_part_all : (x : ℕ) (ts : Trees) (p : ℕ) (d : Tree) → p < nodes_all ts → Occurs x (get_or (subterms_all ts) p d) → OccursIn x ts
  occurs_part_all x none p d h o = absurd (omega arith)
  occurs_part_all x (more t ts) p d h o =
      elim (where_is p (nodes t)) [
        | inl here ↦ in_first (occurs_part x t p d here (subst (Occurs x) (get_or-append (subterms t) (subterms_all ts) d p (omega (arith, length-subterms t))) o))
        | inr later ↦ in_later (occurs_part_all x ts (p - nodes t) d (omega arith) (subst (Occurs x) (get_or-append_right (subterms t) (subterms_all ts) p d (omega (arith, length-subterms t)) ∙ ap (λ n. get_or (subterms_all ts) (p - n) d) (length-subterms t)) o))
      ]

-- what is after a most general unifier what it was before
same_again : (P Q : Tree) (σ τ : ℕ → Tree) → IsMostGeneral P Q σ → apply τ P ≡ apply τ Q → (t : Tree) → apply τ t ≡ apply τ (apply σ t)
same_again P Q σ τ mgu e t = sym (apply-apply τ σ t ∙ same_if (λ x. apply τ (σ x)) τ t (λ x o. mgu.general τ e x))

module _ (m : Meaning) (laws : Laws m) (outer inner : Rule) (place : ℕ) where
  module _ (o : Overlapping outer inner place) (d : LeadsDownTwice m.greater outer inner place) where
    abbrev ρ : ℕ → Tree
    ρ = both o.k d.τ d.υ

    unifies : apply ρ (subterm outer.from place) ≡ apply ρ (shifted o.k inner.from)
    unifies = sym (on_low o.k d.τ d.υ (subterm outer.from place) (λ x q. o.apart x (inl (occurs_part x outer.from place outer.from o.inside q)))) ∙ d.meets ∙ on_high o.k d.τ d.υ inner.from

    again : (t : Tree) → apply ρ t ≡ apply ρ (apply o.σ t)
    again = same_again (subterm outer.from place) (shifted o.k inner.from) o.σ ρ o.most_general unifies

    outer_not : AtMost m.greater (peak o) (left_of o) → ⊥
    outer_not a =
        not_greater m laws (apply ρ (peak o)) (apply ρ (left_of o)) (instance_at_most m laws ρ (peak o) (left_of o) a)
        (subst (λ u. m.greater u (apply ρ (left_of o))) (on_low o.k d.τ d.υ outer.from (λ x q. o.apart x (inl q)) ∙ again outer.from)
        (subst (λ u. m.greater (apply d.τ outer.from) u) (on_low o.k d.τ d.υ outer.to (λ x q. o.apart x (inr q)) ∙ again outer.to) d.outer_down))

    inner_not : AtMost m.greater (inner_from o) (inner_to o) → ⊥
    inner_not a =
        not_greater m laws (apply ρ (inner_from o)) (apply ρ (inner_to o)) (instance_at_most m laws ρ (inner_from o) (inner_to o) a)
        (subst (λ u. m.greater u (apply ρ (inner_to o))) (on_high o.k d.τ d.υ inner.from ∙ again (shifted o.k inner.from))
        (subst (λ u. m.greater (apply d.υ inner.from) u) (on_high o.k d.τ d.υ inner.to ∙ again (shifted o.k inner.to)) d.inner_down))

  pub up_twice : (o : Overlapping outer inner place) → LeadsUp m.greater o → LeadsDownTwice m.greater outer inner place → ⊥
  up_twice o (outer_up (by_instances s t a)) d = outer_not o d a
  up_twice o (outer_up (by_sides s a)) d = nowhere_twice m laws outer inner place (inl a) d
  up_twice o (inner_up (by_instances s t a)) d = inner_not o d a
  up_twice o (inner_up (by_sides s a)) d = nowhere_twice m laws outer inner place (inr a) d

  -- what is said of one overlap is said of any other at the place
  either_large : (a b a' b' : Tree) → AlikeTwo a b a' b' → IsLarge a' ⊎ IsLarge b' → IsLarge a ⊎ IsLarge b
  either_large a b a' b' l (inl x) = inl (large_back a b a' b' l x)
  either_large a b a' b' l (inr y) = inr (large_back b a b' a' (alike_swap a b a' b' l) y)

  goes_up_alike : (l r a b a' b' : Tree) → AlikeTwo a b a' b' → GoesUp m.greater l r a' b' → GoesUp m.greater l r a b
  goes_up_alike l r a b a' b' t (by_instances x y q) = by_instances (small_back a b a' b' t x) (small_back b a b' a' (alike_swap a b a' b' t) y) (alike_at_most m laws a' b' a b (alike_back a b a' b' t) q)
  goes_up_alike l r a b a' b' t (by_sides x q) = by_sides (either_large a b a' b' t x) q

  pub leads_up_alike : (o p : Overlapping outer inner place) → LeadsUp m.greater p → LeadsUp m.greater o
  leads_up_alike o p (outer_up g) = outer_up (goes_up_alike outer.from outer.to (peak o) (left_of o) (peak p) (left_of p) (first_two _ _ _ _ _ _ _ _ _ _ (two_alike outer inner place o p)) g)
  leads_up_alike o p (inner_up g) = inner_up (goes_up_alike inner.from inner.to (inner_from o) (inner_to o) (inner_from p) (inner_to p) (next_two _ _ _ _ _ _ _ _ _ _ (two_alike outer inner place o p)) g)

module _ (Greater : Tree → Tree → Type 0) (outer inner : Rule) (place : ℕ) where
  -- a place at which nothing is listed, and one at which an overlap is
  data Skips : Type 0 where
    skips_variable : (IsApp (subterm outer.from place) → ⊥) → Skips
    skips_apart : IsApart outer inner place → Skips
    skips_repeated : IsRepeated outer inner place → Skips
    skips_up : ((o : Overlapping outer inner place) → LeadsUp Greater o) → Skips

  not_both : Skips → (o : Overlapping outer inner place) → (IsRepeated outer inner place → ⊥) → (LeadsUp Greater o → ⊥) → ⊥
  not_both (skips_variable n) o fresh down = n o.no_variable
  not_both (skips_apart a) o fresh down = apart_never outer inner place a o
  not_both (skips_repeated r) o fresh down = fresh r
  not_both (skips_up u) o fresh down = down (u o)

pub too_large_or_fits : (outer inner : Rule) (place : ℕ) (o : Overlapping outer inner place) → IsTooLarge o → Fits o → ⊥
too_large_or_fits outer inner place o (inl l) f = absurd (omega (arith, l, f.peak_small))
too_large_or_fits outer inner place o (inr (inl l)) f = absurd (omega (arith, l, f.left_small))
too_large_or_fits outer inner place o (inr (inr l)) f = absurd (omega (arith, l, f.right_small))

one_size : (outer inner : Rule) (place : ℕ) (o : Overlapping outer inner place) (s t : Size) → HasSize o s → HasSize o t → s ≡ t
one_size outer inner place o _ _ (is_large l) (is_large k) = refl
one_size outer inner place o _ _ (is_large l) (is_same f e) = absurd (too_large_or_fits outer inner place o l f)
one_size outer inner place o _ _ (is_large l) (is_weight f e) = absurd (too_large_or_fits outer inner place o l f)
one_size outer inner place o _ _ (is_same f e) (is_large l) = absurd (too_large_or_fits outer inner place o l f)
one_size outer inner place o _ _ (is_same f e) (is_same g d) = refl
one_size outer inner place o _ _ (is_same f e) (is_weight g d) = absurd (d e)
one_size outer inner place o _ _ (is_weight f e) (is_large l) = absurd (too_large_or_fits outer inner place o l f)
one_size outer inner place o _ _ (is_weight f e) (is_same g d) = absurd (e d)
one_size outer inner place o _ _ (is_weight f e) (is_weight g d) = refl

size_again : (outer inner : Rule) (place : ℕ) (o p : Overlapping outer inner place) (t : Size) → HasSize p t → HasSize o t
size_again outer inner place o p _ (is_large l) = is_large (large_alike o _ _ _ _ _ (two_alike outer inner place o p) l)
size_again outer inner place o p _ (is_same f e) = size_alike o _ _ _ _ _ (two_alike outer inner place o p) Same (f.peak_small, f.left_small, f.right_small, e)
size_again outer inner place o p _ (is_weight f e) = size_alike o _ _ _ _ _ (two_alike outer inner place o p) (Weight (nodes (left_of p) + nodes (right_of p))) (f.peak_small, f.left_small, f.right_small, e, refl)

pub any_size : (outer inner : Rule) (place : ℕ) (o p : Overlapping outer inner place) (s t : Size) → HasSize o s → HasSize p t → s ≡ t
any_size outer inner place o p s t h k = one_size outer inner place o s t h (size_again outer inner place o p t k)

module _ (Greater : Tree → Tree → Type 0) (outer inner : Rule) where
  -- what a list begins with
  data Begins (place : ℕ) : List Formed → Type 0 where
    begins_none : nodes outer.from ≤ place → Begins place []
    begins_later : {list : List Formed} → place < nodes outer.from → Skips Greater outer inner place → Lists Greater outer inner (place + 1) list → Begins place list
    begins_here : {size : Size} {list : List Formed} (o : Overlapping outer inner place) → (IsRepeated outer inner place → ⊥) → (LeadsUp Greater o → ⊥) → HasSize o size → Lists Greater outer inner (place + 1) list → Begins place (formed_at outer inner place size ∷ list)

  begins : (place : ℕ) (list : List Formed) → Lists Greater outer inner place list → Begins place list
  begins place _ (no_more_places h) = begins_none h
  begins place list (at_variable h n rest) = begins_later h (skips_variable n) rest
  begins place list (no_unifier h a rest) = begins_later h (skips_apart a) rest
  begins place list (repeats h r rest) = begins_later h (skips_repeated r) rest
  begins place list (goes_nowhere h n u rest) = begins_later h (skips_up u) rest
  begins place list (leads_up o u rest) = begins_later o.inside (skips_up u) rest
  begins place _ (is_listed o fresh down size rest) = begins_here o fresh down size rest

  -- by the number of places that are left
  abbrev SameFrom : ℕ → Type 0
  SameFrom place = (x y : List Formed) → Lists Greater outer inner place x → Lists Greater outer inner place y → x ≡ y

  same_at : (place : ℕ) → SameFrom (place + 1) → (x y : List Formed) → Begins place x → Begins place y → x ≡ y
  same_at place next _ _ (begins_none h) (begins_none k) = refl
  same_at place next _ y (begins_none h) (begins_later k s rest) = absurd (omega arith)
  same_at place next _ _ (begins_none h) (begins_here o fresh down size rest) = absurd (omega (arith, o.inside))
  same_at place next x _ (begins_later k s rest) (begins_none h) = absurd (omega arith)
  same_at place next x y (begins_later k s rest) (begins_later h r others) = next x y rest others
  same_at place next x _ (begins_later k s rest) (begins_here o fresh down size others) = absurd (not_both Greater outer inner place s o fresh down)
  same_at place next _ _ (begins_here o fresh down size rest) (begins_none h) = absurd (omega (arith, o.inside))
  same_at place next _ y (begins_here o fresh down size rest) (begins_later k s others) = absurd (not_both Greater outer inner place s o fresh down)
  same_at place next _ _ (begins_here {size = s} {list = x} o fresh down size rest) (begins_here {size = t} {list = y} p new below large others) =
      ap₂ (λ z l. formed_at outer inner place z ∷ l) (any_size outer inner place o p s t size large) (next x y rest others)

  ended : (place : ℕ) → nodes outer.from ≤ place → (x y : List Formed) → Begins place x → Begins place y → x ≡ y
  ended place h _ _ (begins_none k) (begins_none l) = refl
  ended place h _ y (begins_none k) (begins_later l s rest) = absurd (omega arith)
  ended place h _ _ (begins_none k) (begins_here o fresh down size rest) = absurd (omega (arith, o.inside))
  ended place h x y (begins_later l s rest) b = absurd (omega arith)
  ended place h _ y (begins_here o fresh down size rest) b = absurd (omega (arith, o.inside))

  same_from : (n place : ℕ) → nodes outer.from ≤ n + place → SameFrom place
  same_from zero place h x y a b = ended place (omega arith) x y (begins place x a) (begins place y b)
  same_from (suc n) place h x y a b = same_at place (same_from n (place + 1) (omega arith)) x y (begins place x a) (begins place y b)

  pub same_list : (x y : List Formed) → Lists Greater outer inner 0 x → Lists Greater outer inner 0 y → x ≡ y
  same_list = same_from (nodes outer.from) 0 (omega arith)

pub same_each : (Greater : Tree → Tree → Type 0) (rules : List (Rule × Rule)) (x y : List Formed) → ListsEach Greater rules x → ListsEach Greater rules y → x ≡ y
same_each Greater [] _ _ no_rules no_rules = refl
same_each Greater ((outer, inner) ∷ rules) _ _ (next_rules {list = x} {others = xs} a more_a) (next_rules {list = y} {others = ys} b more_b) =
    ap₂ (λ l r. l ++ r) (same_list Greater outer inner x y a b) (same_each Greater rules xs ys more_a more_b)
