-- The root's branches by their symbols.
use Rattle.std.specs.Prelude.{ℕ, zero, suc, ◌≡◌, ◌+◌, ◌<◌, ◌≤◌, List, [], ◌∷◌, take, length, slice_get, Option, Some, None}
use Rattle.uc_term.specs.declared.node.Node.{Node}
use Rattle.uc_disc.specs.declared.place.Label.{Label}
use Rattle.uc_disc.specs.declared.place.Label.TheVariants.{Head as AHead, Leaf}
use Rattle.uc_disc.specs.declared.place.Place.{Place}
use Rattle.uc_disc.specs.declared.heads.Head.{Head}
use Rattle.uc_disc.specs.declared.heads.Part.{Part}
use Rattle.uc_disc.specs.declared.heads.Parts.{Parts}
use Rattle.uc_disc.specs.Trail.{before}
use Rattle.uc_disc.specs.Standing.{FailsAt}

-- the place is a branch of the root, if there is one
abbrev pub IsRoot : List Place → ℕ → Type 0
IsRoot ps i = (p : Place) → slice_get ps i ≡ Some p → p.depth ≡ 0

-- the trail begins with this symbol
pub record BeginsWith (f : ℕ) (path : List Label) : Type 0 where
  pub arity : ℕ
  pub rest : List Label
  pub is : path ≡ AHead f arity ∷ rest

-- the trail of each leaf from one place on and before another begins with this symbol
abbrev pub AreUnder : List Place → ℕ → ℕ → ℕ → Type 0
AreUnder ps f from to = (j : ℕ) (p : Place) (r : ℕ) → from ≤ j → j < to → slice_get ps j ≡ Some p → p.label ≡ Leaf r → BeginsWith f (take p.depth (before ps j))

-- where the part of a head begins; behind the last head, where the parts end
abbrev pub start_at : List Head → ℕ → ℕ → ℕ
start_at [] k end = end
start_at (h ∷ hs) zero end = h.start
start_at (h ∷ hs) (suc k) end = start_at hs k end

-- the heads' symbols rise
abbrev pub AreRisingHeads : List Head → Type 0
AreRisingHeads heads = (i j : ℕ) (g h : Head) → i < j → slice_get heads i ≡ Some g → slice_get heads j ≡ Some h → g.symbol < h.symbol

-- from the first head's place on and before another place, each leaf is in the part of the head with which its trail begins
pub record AreHeads (ps : List Place) (heads : List Head) (end : ℕ) : Type 0 where
  pub rising : AreRisingHeads heads
  pub within : (k : ℕ) → start_at heads k end ≤ length ps
  pub roots : (k : ℕ) → IsRoot ps (start_at heads k end)
  pub under : (k : ℕ) (h : Head) → slice_get heads k ≡ Some h → AreUnder ps h.symbol (start_at heads k end) (start_at heads (k + 1) end)

-- the label is this symbol, which is above those of all heads
pub record IsNext (heads : List Head) (s : Label) (f : ℕ) : Type 0 where
  pub arity : ℕ
  pub is : s ≡ AHead f arity
  pub above : (k : ℕ) (h : Head) → slice_get heads k ≡ Some h → h.symbol < f

-- the head of a symbol, of which there is no other one
abbrev pub IsSought : List Head → ℕ → Option ℕ → Type 0
IsSought heads f None = (j : ℕ) (h : Head) → slice_get heads j ≡ Some h → h.symbol ≡ f → ⊥
IsSought heads f (Some k) = (k < length heads) × ((j : ℕ) (h : Head) → slice_get heads j ≡ Some h → h.symbol ≡ f → j ≡ k)

-- the part of a symbol's head; where there is none, the part is empty, at the end
pub data IsUnder (heads : List Head) (f end : ℕ) (part : Part) : Type 0 where
  found : (k : ℕ) → IsSought heads f (Some k) → part.start ≡ start_at heads k end → part.stop ≡ start_at heads (k + 1) end → IsUnder heads f end part
  not_found : IsSought heads f None → part.start ≡ end → part.stop ≡ end → IsUnder heads f end part

-- the second part begins with a branch of the root, and no leaf that is in neither part has a trail that leads through the term
pub record AreParts (ns : List Node) (ps : List Place) (parts : Parts) : Type 0 where
  pub first_within : parts.first ≤ length ps
  pub start_within : parts.second.start ≤ length ps
  pub stop_within : parts.second.stop ≤ length ps
  pub root : IsRoot ps parts.second.start
  pub between : (bound : ℕ) → FailsAt ns ps parts.first parts.second.start bound
  pub behind : (bound : ℕ) → FailsAt ns ps parts.second.stop (length ps) bound
