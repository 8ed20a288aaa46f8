-- What a list of joinable overlaps says of each place.
use Rattle.std.proofs.Common.{◌≡◌, ℕ, ◌+◌, ◌<◌, ◌≤◌, List, [], ◌∷◌, sym, subst, ◌⊎◌, inl, inr, arith}
use Rattle.uc_term.specs.declared.equation.Equation.{Equation}
use Rattle.uc_term.specs.declared.equation.Side.{Side}
use Rattle.uc_term.specs.declared.equation.Side.TheVariants.{Left, Right}
use Rattle.uc_term.specs.Tree.{nodes, subterm}
use Rattle.uc_term.specs.Variables.{IsApp}
use Rattle.uc_order.specs.Members.{In, in_front, in_rest, Each}
use Rattle.uc_order.specs.Laws.{Meaning, Laws}
use Rattle.uc_fact.specs.Live.{Live, Rule}
use Rattle.uc_pair.specs.declared.formed.Formed.{Formed}
use Rattle.uc_pair.specs.Overlapping.{Overlapping, IsApart, left_of, right_of, read_from}
use Rattle.uc_pair.specs.Listing.{IsRepeated, Lists, no_more_places, at_variable, no_unifier, repeats, goes_nowhere, leads_up, is_listed, ListsEach, next_rules}
use Rattle.uc_pair.specs.Peaks.{LeadsDownTwice}
use Rattle.uc_pair.proofs.Uniqueness.{nowhere_twice, up_twice}
use Rattle.uc_decide.specs.Converging.{AreJoinable, IsJoinableOverlap, HasJoinableOverlaps}
use Rattle.uc_decide.proofs.Members.{Each-parts}

module _ (m : Meaning) (laws : Laws m) (live : List Live) where
  -- at this place the sides don't unify, or the overlap is repeated elsewhere, or both rules never lead down, or the pair is joinable
  pub data IsSettled (outer inner : Rule) (place : ℕ) : Type 0 where
    are_apart : IsApart outer inner place → IsSettled outer inner place
    is_repeated : IsRepeated outer inner place → IsSettled outer inner place
    never_down : (LeadsDownTwice m.greater outer inner place → ⊥) → IsSettled outer inner place
    has_joinable : (o : Overlapping outer inner place) → AreJoinable m live (left_of o) (right_of o) → IsSettled outer inner place

  module _ (i : ℕ) (a : Side) (e : Equation) (j : ℕ) (b : Side) (f : Equation) where
    abbrev outer : Rule
    outer = read_from i a e

    abbrev inner : Rule
    inner = read_from j b f

    abbrev Joins : Formed → Type 0
    Joins formed = IsJoinableOverlap m live e f formed.overlap

    -- from a place on
    walked : (from place : ℕ) → (IsApp (subterm outer.from from) → IsSettled outer inner from) → (from + 1 ≤ place → IsSettled outer inner place) → from ≤ place → IsApp (subterm outer.from place) → IsSettled outer inner place
    walked from place here later h app = go (grind arith)
      where
        go : (from ≡ place) ⊎ (from + 1 ≤ place) → IsSettled outer inner place
        go (inl q) = subst (IsSettled outer inner) q (here (subst (λ (k : ℕ). IsApp (subterm outer.from k)) (sym q) app))
        go (inr k) = later k

    settled_from : (from : ℕ) (list : List Formed) → Lists m.greater outer inner from list → Each Joins list → (place : ℕ) → from ≤ place → place < nodes outer.from → IsApp (subterm outer.from place) → IsSettled outer inner place
    settled_from from _ (no_more_places h) all place low high app = absurd (omega arith)
    settled_from from list (at_variable h n rest) all place low high app = walked from place (λ p. absurd (n p)) (λ k. settled_from (from + 1) list rest all place k high app) low app
    settled_from from list (no_unifier h n rest) all place low high app = walked from place (λ p. are_apart n) (λ k. settled_from (from + 1) list rest all place k high app) low app
    settled_from from list (repeats h r rest) all place low high app = walked from place (λ p. is_repeated r) (λ k. settled_from (from + 1) list rest all place k high app) low app
    settled_from from list (goes_nowhere h n u rest) all place low high app = walked from place (λ p. never_down (nowhere_twice m laws outer inner from n)) (λ k. settled_from (from + 1) list rest all place k high app) low app
    settled_from from list (leads_up o u rest) all place low high app = walked from place (λ p. never_down (up_twice m laws outer inner from o (u o))) (λ k. settled_from (from + 1) list rest all place k high app) low app
    settled_from from _ (is_listed {list = list} o fresh down size rest) all place low high app = walked from place (λ p. has_joinable all.0.overlaps all.0.joinable) (λ k. settled_from (from + 1) list rest all.1 place k high app) low app

  -- the list of two of the rules
  pub record Listed (P : Formed → Type 0) (outer inner : Rule) : Type 0 where
    pub list : List Formed
    pub lists : Lists m.greater outer inner 0 list
    pub each : Each P list

  listed : (P : Formed → Type 0) (rules : List (Rule × Rule)) (list : List Formed) → ListsEach m.greater rules list → Each P list → (r s : Rule) → In {A = Rule × Rule} rules (r, s) → Listed P r s
  listed P [] list l all r s n = elim n [ ]
  listed P (_ ∷ rules) _ (next_rules {list = xs} {others = ys} l rest) all r s in_front = record { list = xs; lists = l; each = (Each-parts P xs ys all).0 }
  listed P (_ ∷ rules) _ (next_rules {list = xs} {others = ys} l rest) all r s (in_rest n) = listed P rules ys rest (Each-parts P xs ys all).1 r s n

  among : (i : ℕ) (a : Side) (e : Equation) (j : ℕ) (b : Side) (f : Equation) → In {A = Rule × Rule} ((read_from i Left e, read_from j Left f) ∷ (read_from i Left e, read_from j Right f) ∷ (read_from i Right e, read_from j Left f) ∷ (read_from i Right e, read_from j Right f) ∷ []) (read_from i a e, read_from j b f)
  among i Left e j Left f = in_front
  among i Left e j Right f = in_rest in_front
  among i Right e j Left f = in_rest (in_rest in_front)
  among i Right e j Right f = in_rest (in_rest (in_rest in_front))

  pub settled : (i : ℕ) (a : Side) (e : Equation) (j : ℕ) (b : Side) (f : Equation) → HasJoinableOverlaps m live i e j f → (place : ℕ) → place < nodes (read_from i a e).from → IsApp (subterm (read_from i a e).from place) → IsSettled (read_from i a e) (read_from j b f) place
  settled i a e j b f h place low app =
      let l = listed (λ formed. IsJoinableOverlap m live e f formed.overlap) _ h.list h.are_overlaps h.are_joinable (read_from i a e) (read_from j b f) (among i a e j b f) in
      settled_from i a e j b f 0 l.list l.lists l.each place (omega arith) low app
