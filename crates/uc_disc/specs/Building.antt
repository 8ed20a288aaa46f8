-- How the places come from the spellings of the rules.
use Rattle.std.specs.Prelude.{ℕ, ◌≡◌, ◌+◌, ◌≤◌, List, [], ◌∷◌, ◌++◌, take, drop, length, map, slice_get, Some, All}
use Rattle.uc_fact.specs.Live.{Rule}
use Rattle.uc_disc.specs.declared.place.Label.{Label}
use Rattle.uc_disc.specs.declared.place.Label.TheVariants.{Leaf}
use Rattle.uc_disc.specs.declared.place.Place.{Place}
use Rattle.uc_disc.specs.declared.build.Spelled.{Spelled}
use Rattle.uc_disc.specs.Spelling.{labels_of}
use Rattle.uc_disc.specs.Trail.{AreSupported, AreSpelled, leaves, numbers_below}

-- it spells the side of its rule
abbrev pub IsSpelled : List Rule → Spelled → Type 0
IsSpelled rules s = (rule : Rule) × (slice_get rules s.rule ≡ Some rule) × (s.labels.items ≡ labels_of rule.from) × (length s.labels.items ≤ 4096)

abbrev pub rules_spelled : List Spelled → List ℕ
rules_spelled list = map (λ (s : Spelled). s.rule) list

-- the first so many rules are spelled, in order
pub record AreInOrder (rules : List Rule) (n : ℕ) (list : List Spelled) : Type 0 where
  pub numbers : rules_spelled list ≡ numbers_below n
  pub spelled : All (IsSpelled rules) list

-- places for labels, each one deeper than the one before it
abbrev pub stretch : ℕ → List Label → List Place
stretch depth [] = []
stretch depth (s ∷ ss) = record { label = s; depth = depth; skip = 0; least = 0 } ∷ stretch (depth + 1) ss

-- the places of a spelling are added behind those of another one with which it has its first labels in common
pub record AddsPlaces (before labels : List Label) (rule : ℕ) (old new : List Place) : Type 0 where
  pub common : ℕ
  pub within : (common ≤ length before) × (common ≤ length labels)
  pub same : take common before ≡ take common labels
  pub new_is : new ≡ old ++ (stretch common (drop common labels) ++ record { label = Leaf rule; depth = length labels; skip = 0; least = 0 } ∷ [])

-- the places stand on trails, and their leaves are those of these rules
pub record IsBuilt (rules : List Rule) (numbers : List ℕ) (ps : List Place) : Type 0 where
  pub supported : AreSupported [] ps
  pub spelled : AreSpelled rules [] ps
  pub leaves_are : leaves ps ≡ numbers
  pub short : (i : ℕ) (p : Place) → slice_get ps i ≡ Some p → p.depth ≤ 4096
