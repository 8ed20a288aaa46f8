-- The tree of all rules.
use Rattle.std.proofs.Common.{ℕ, ◌≡◌, ◌≤◌, List, length, Some, sym, subst, arith, All, map, take, drop, ◌++◌}
use Rattle.std.specs.Prelude.{slice_get, IsPermutation}
use Rattle.std.proofs.lemmas.Option.{slice_get_within, get_or_from_slice_get}
use Rattle.std.proofs.lemmas.List.Sorted.{IsPermutation-map, All-permutation}
use Rattle.std.proofs.lemmas.List.Elements.{All-get_or}
use Rattle.uc_fact.specs.Live.{Rule}
use Rattle.uc_disc.specs.declared.place.Place.{Place}
use Rattle.uc_disc.specs.declared.build.Spelled.{Spelled}
use Rattle.uc_disc.specs.Trail.{bare, AreMarks, AreBelow, IsTree, numbers_below}
use Rattle.uc_disc.specs.Building.{AreInOrder, IsSpelled, rules_spelled, IsBuilt}
use Rattle.std.proofs.Math.Seq.{take-append_seam}
use Rattle.uc_disc.proofs.Bare.{built_alike}

-- a list all of which was lent is what the loan ends with
pub lent_all : {A : Type 0} (old new : List A) (n : ℕ) → length new ≡ n → take n (new ++ drop (length new) old) ≡ new
lent_all old new n h = subst (λ (k : ℕ). take k (new ++ drop (length new) old) ≡ new) h (take-append_seam new (drop (length new) old))

module _ (rules : List Rule) (list sorted : List Spelled) (ordered : AreInOrder rules (length rules) list) (perm : IsPermutation list sorted) where
  pub all_sorted : All (IsSpelled rules) sorted
  all_sorted = All-permutation (IsSpelled rules) list sorted perm ordered.spelled

  pub short_sorted : (i : ℕ) (s : Spelled) → slice_get sorted i ≡ Some s → length s.labels.items ≤ 4096
  short_sorted i s e = (subst (IsSpelled rules) (get_or_from_slice_get sorted i s s e) (All-get_or (IsSpelled rules) sorted i s (slice_get_within sorted i s e) all_sorted)).3

  module _ (ps : List Place) (built : (rs : List Rule) → All (IsSpelled rs) sorted → IsBuilt rs (rules_spelled sorted) ps) (qs : List Place) (alike : map bare qs ≡ map bare ps) where
    pub is_built : IsBuilt rules (rules_spelled sorted) qs
    is_built = built_alike rules (rules_spelled sorted) ps qs (sym alike) (built rules all_sorted)

    pub short_places : (i : ℕ) (p : Place) → slice_get qs i ≡ Some p → p.depth ≤ 4096
    short_places = is_built.short

    pub tree_whole : (deep : ℕ) → AreMarks qs → AreBelow deep qs → IsTree rules qs deep
    tree_whole deep marks below = record {
      shaped = record { supported = is_built.supported; marks = marks; below = below };
      spelled = is_built.spelled;
      each = subst (IsPermutation (numbers_below (length rules))) (sym is_built.leaves_are) (subst (λ z. IsPermutation z (rules_spelled sorted)) ordered.numbers (IsPermutation-map (λ (s : Spelled). s.rule) list sorted perm));
    }

-- places are no deeper than a greater bound either
pub tree_deeper : (rules : List Rule) (ps : List Place) (deep d : ℕ) → deep ≤ d → IsTree rules ps deep → IsTree rules ps d
tree_deeper rules ps deep d h t = record {
  shaped = record { supported = t.shaped.supported; marks = t.shaped.marks; below = λ i p e. omega (arith, t.shaped.below i p e) };
  spelled = t.spelled;
  each = t.each;
}
