-- What makes a list of places a perfect discrimination tree in preorder.
use Rattle.std.specs.Prelude.{ℕ, zero, suc, ◌≡◌, ◌<◌, ◌≤◌, List, [], ◌∷◌, ◌++◌, take, length, slice_get, Some, IsPermutation}
use Rattle.uc_fact.specs.Live.{Rule}
use Rattle.uc_disc.specs.declared.place.Label.{Label}
use Rattle.uc_disc.specs.declared.place.Label.TheVariants.{Variable, Head, Leaf}
use Rattle.uc_disc.specs.declared.place.Place.{Place}
use Rattle.uc_disc.specs.Spelling.{labels_of}

-- what a label adds to a trail
abbrev pub added : Label → List Label
added (Variable k) = Variable k ∷ []
added (Head f n) = Head f n ∷ []
added (Leaf r) = []

-- the trail behind a place, which stands on the first `depth` labels of the trail before it
abbrev pub on : List Label → Place → List Label
on path p = take p.depth path ++ added p.label

-- the trail behind places
abbrev pub trail : List Label → List Place → List Label
trail path [] = path
trail path (p ∷ ps) = trail (on path p) ps

-- the trail before a place
abbrev pub before : List Place → ℕ → List Label
before ps i = trail [] (take i ps)

-- a variable refers to a place on its own trail
abbrev pub RefersBack : Label → ℕ → Type 0
RefersBack (Variable k) depth = k ≤ depth
RefersBack (Head f n) depth = Unit {0}
RefersBack (Leaf r) depth = Unit {0}

-- each place stands on a trail that is long enough
abbrev pub AreSupported : List Label → List Place → Type 0
AreSupported path [] = Unit {0}
AreSupported path (p ∷ ps) = (p.depth ≤ length path) × RefersBack p.label p.depth × AreSupported (on path p) ps

-- a leaf's trail spells the side of its rule
abbrev pub Spells : List Rule → Label → List Label → Type 0
Spells rules (Variable k) path = Unit {0}
Spells rules (Head f n) path = Unit {0}
Spells rules (Leaf r) path = (rule : Rule) × (slice_get rules r ≡ Some rule) × (path ≡ labels_of rule.from)

abbrev pub AreSpelled : List Rule → List Label → List Place → Type 0
AreSpelled rules path [] = Unit {0}
AreSpelled rules path (p ∷ ps) = Spells rules p.label (take p.depth path) × AreSpelled rules (on path p) ps

-- the rules of the leaves, in the order of their places
abbrev pub leaf : Label → List ℕ
leaf (Variable k) = []
leaf (Head f n) = []
leaf (Leaf r) = r ∷ []

abbrev pub leaves : List Place → List ℕ
leaves [] = []
leaves (p ∷ ps) = leaf p.label ++ leaves ps

abbrev pub numbers_below : ℕ → List ℕ
numbers_below zero = []
numbers_below (suc n) = numbers_below n ++ n ∷ []

-- the place without its mark
abbrev pub bare : Place → Place
bare p = record { label = p.label; depth = p.depth; skip = 0; least = 0 }

-- from a place on, those before the one noted are below it, and that one isn't; no leaf at the place or below has a rule
-- before the least one noted
pub record IsMark (ps : List Place) (i : ℕ) (m : Place) : Type 0 where
  pub ahead : i < m.skip
  pub within : m.skip ≤ length ps
  pub below : (j : ℕ) (p q : Place) → slice_get ps i ≡ Some p → i < j → j < m.skip → slice_get ps j ≡ Some q → p.depth < q.depth
  pub behind : (p q : Place) → slice_get ps i ≡ Some p → slice_get ps m.skip ≡ Some q → q.depth ≤ p.depth
  pub least : (j : ℕ) (q : Place) (r : ℕ) → i ≤ j → j < m.skip → slice_get ps j ≡ Some q → q.label ≡ Leaf r → m.least ≤ r

-- each place has its mark
abbrev pub AreMarks : List Place → Type 0
AreMarks ps = (i : ℕ) (p : Place) → slice_get ps i ≡ Some p → IsMark ps i p

-- no place is as deep
abbrev pub AreBelow : ℕ → List Place → Type 0
AreBelow deep ps = (i : ℕ) (p : Place) → slice_get ps i ≡ Some p → p.depth < deep

-- what a walk asks of the places
pub record IsShaped (ps : List Place) (deep : ℕ) : Type 0 where
  pub supported : AreSupported [] ps
  pub marks : AreMarks ps
  pub below : AreBelow deep ps

-- exactly one leaf for each rule, whose trail spells the rule's side, and no other leaf
pub record IsTree (rules : List Rule) (ps : List Place) (deep : ℕ) : Type 0 where
  pub shaped : IsShaped ps deep
  pub spelled : AreSpelled rules [] ps
  pub each : IsPermutation (numbers_below (length rules)) (leaves ps)
