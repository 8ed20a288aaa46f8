-- Where a walk along a trail stands in a term.
use Rattle.std.specs.Prelude.{ℕ, ◌≡◌, ◌+◌, ◌<◌, ◌≤◌, List, [], ◌∷◌, ◌++◌, take, drop, length, slice_get, slice_index, Some, Bool, true, false}
use Rattle.uc_term.specs.declared.node.Node.{Node}
use Rattle.uc_term.specs.declared.node.Node.TheVariants.{App}
use Rattle.uc_term.specs.Tree.{Tree, apply, nodes}
use Rattle.uc_term.specs.Flat.{tree_of}
use Rattle.uc_disc.specs.declared.place.Label.{Label}
use Rattle.uc_disc.specs.declared.place.Label.TheVariants.{Variable, Head, Leaf}
use Rattle.uc_disc.specs.declared.place.Place.{Place}
use Rattle.uc_disc.specs.Spelling.{labels_of}
use Rattle.uc_disc.specs.Trail.{before}

-- the subterm at a place
abbrev pub part : List Node → ℕ → Tree
part ns q = tree_of (drop q ns)

-- a label leads from one place of the term to the next one
abbrev pub Moves : List Node → List ℕ → ℕ → Label → Type 0
Moves ns at m (Head f n) = (slice_get ns (slice_index at m) ≡ Some (App (record { 0 = f }) n)) × (slice_index at (m + 1) ≡ slice_index at m + 1)
Moves ns at m (Variable k) = (k ≤ m) × (slice_index at m < length ns) × (part ns (slice_index at k) ≡ part ns (slice_index at m)) × (slice_index at (m + 1) ≡ slice_index at m + nodes (part ns (slice_index at m)))
Moves ns at m (Leaf r) = ⊥

-- the walk along the trail can be made, and stands at each depth at the place noted for it
pub record Stands (ns : List Node) (path : List Label) (at : List ℕ) : Type 0 where
  pub starts : slice_index at 0 ≡ 0
  pub moves : (m : ℕ) (s : Label) → slice_get path m ≡ Some s → Moves ns at m s

-- the term is no instance of a term whose labels begin with the trail
abbrev pub Fails : List Node → List Label → Type 0
Fails ns path = (t : Tree) (σ : ℕ → Tree) → take (length path) (labels_of t) ≡ path → apply σ t ≡ tree_of ns → ⊥

-- what a further label comes to
abbrev pub IsFollowed : List Node → ℕ → Label → List ℕ → List ℕ → Bool → Type 0
IsFollowed ns depth s old new true = (path : List Label) → length path ≡ depth → Stands ns path old → Stands ns (path ++ s ∷ []) new
IsFollowed ns depth s old new false = (new ≡ old) × ((path : List Label) → length path ≡ depth → Stands ns path old → Fails ns (path ++ s ∷ []))

module _ (ns : List Node) (ps : List Place) where
  -- the walk stands where it can test the place
  abbrev pub StandsAt : ℕ → List ℕ → Type 0
  StandsAt i at = (p : Place) → slice_get ps i ≡ Some p → Stands ns (take p.depth (before ps i)) at

  -- no leaf from one place on and before another, with a rule below the bound, has a trail that leads through the term
  abbrev pub FailsAt : ℕ → ℕ → ℕ → Type 0
  FailsAt from i bound = (j : ℕ) (p : Place) (r : ℕ) → from ≤ j → j < i → slice_get ps j ≡ Some p → p.label ≡ Leaf r → r < bound → Fails ns (take p.depth (before ps j))

  -- the place is a leaf, if there is one
  abbrev pub IsLeafAt : ℕ → Type 0
  IsLeafAt i = (p : Place) → slice_get ps i ≡ Some p → (r : ℕ) × (p.label ≡ Leaf r)
