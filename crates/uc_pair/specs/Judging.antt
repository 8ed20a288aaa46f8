-- What the place of an outer side comes to. Sizes are counted; instances are built only where they are compared, and no further than 4,096 nodes.
use Rattle.std.specs.Prelude.{ℕ, ◌≡◌, ◌+◌, ◌<◌, ◌≤◌, ◌⊎◌, ◌++◌, Bool, true, false, List, ◌∷◌, length, Option, Some, None}
use Rattle.uc_term.specs.Tree.{Tree, apply, nodes, put}
use Rattle.uc_term.specs.declared.node.Node.{Node}
use Rattle.uc_term.specs.Flat.{flat}
use Rattle.uc_term.specs.Positions.{IsPlaceOf}
use Rattle.uc_fact.specs.Live.{Rule}
use Rattle.uc_pair.specs.declared.formed.Size.{Size}
use Rattle.uc_pair.specs.declared.formed.Size.TheVariants.{Weight, Same, Large}
use Rattle.uc_pair.specs.declared.formed.Formed.{Formed}
use Rattle.uc_pair.specs.declared.instances.Placed.{Placed}
use Rattle.uc_pair.specs.declared.instances.RenamedApart.{RenamedApart}
use Rattle.uc_pair.specs.Overlapping.{IsLarge, IsSmall, overlap_at}
use Rattle.uc_pair.specs.Listing.{AtMost, Lists}

-- the instance, where it is small
abbrev pub IsInstance : (ℕ → Tree) → Tree → Option Tree → Type 0
IsInstance σ t None = IsLarge (apply σ t)
IsInstance σ t (Some u) = (u ≡ apply σ t) × IsSmall (apply σ t)

-- the list holds the term, where it is small
abbrev pub IsFilled : Tree → List Node → Bool → Type 0
IsFilled t list true = (list ≡ flat t) × IsSmall t
IsFilled t list false = IsLarge t

-- the new list is the old one with these nodes behind it, where they are few enough for a term
abbrev pub AreAdded : List Node → List Node → List Node → Bool → Type 0
AreAdded added old new true = (new ≡ old ++ added) × (length new ≤ 4096)
AreAdded added old new false = 4096 < length (old ++ added)

-- the term with its subterm at a place replaced, where it is small
abbrev pub IsPut : Tree → ℕ → Tree → Option Placed → Type 0
IsPut t place part None = IsLarge (put t place part)
IsPut t place part (Some placed) = (placed.term ≡ put t place part) × IsSmall (put t place part) × (placed.there.0 ≡ place)

-- the instance of a term in which another term stands at a place, and the place of the same position in the term's instance
pub record IsReplacedBy (σ : ℕ → Tree) (t : Tree) (place : ℕ) (v : Tree) (placed : Placed) : Type 0 where
  pub term_is : placed.term ≡ apply σ (put t place v)
  pub small : IsSmall (apply σ (put t place v))
  pub whole_small : IsSmall (apply σ t)
  pub path : List ℕ
  pub path_is : IsPlaceOf t path place
  pub there_is : IsPlaceOf (apply σ t) path placed.there.0

-- this, where it and the term's instance are small
abbrev pub IsReplaced : (ℕ → Tree) → Tree → ℕ → Tree → Option Placed → Type 0
IsReplaced σ t place v None = IsLarge (apply σ t) ⊎ IsLarge (apply σ (put t place v))
IsReplaced σ t place v (Some placed) = IsReplacedBy σ t place v placed

-- how many nodes the term has, where it is small
abbrev pub IsSmallSize : Tree → Option ℕ → Type 0
IsSmallSize t None = IsLarge t
IsSmallSize t (Some size) = IsSmall t × (size ≡ nodes t)

-- how many nodes the right side has, where it and the peak are small
abbrev pub IsRightSize : Tree → Tree → Option ℕ → Type 0
IsRightSize top right None = IsLarge top ⊎ IsLarge right
IsRightSize top right (Some size) = IsSmall top × IsSmall right × (size ≡ nodes right)

-- two sides that are small are equal, or not
abbrev pub IsSameOr : Tree → Tree → ℕ → Size → Type 0
IsSameOr left right weight Large = ⊥
IsSameOr left right weight Same = IsSmall left → IsSmall right → left ≡ right
IsSameOr left right weight (Weight w) = (w ≡ weight) × (IsSmall left → IsSmall right → left ≡ right → ⊥)

abbrev pub formed_at : Rule → Rule → ℕ → Size → Formed
formed_at outer inner place size = record { overlap = overlap_at outer inner place; size = size }

module _ (Greater : Tree → Tree → Type 0) where
  -- both instances are small, and the first is at most the second
  abbrev pub StaysAt : Tree → Tree → Type 0
  StaysAt u v = IsSmall u × IsSmall v × AtMost Greater u v

  -- the list from a place on is the one from the next place on, with the overlap at the place before it where one is listed
  abbrev pub IsJudged : Rule → Rule → ℕ → Option Size → Type 0
  IsJudged outer inner place None = (list : List Formed) → Lists Greater outer inner (place + 1) list → Lists Greater outer inner place list
  IsJudged outer inner place (Some size) = (list : List Formed) → Lists Greater outer inner (place + 1) list → Lists Greater outer inner place (formed_at outer inner place size ∷ list)

  -- the list from a place on is the one from a later place on, with these before it
  abbrev pub ListsOn : Rule → Rule → ℕ → ℕ → List Formed → Type 0
  ListsOn outer inner place next added = (list : List Formed) → Lists Greater outer inner next list → Lists Greater outer inner place (added ++ list)

-- What the instances of renamed sides by a unifier come to: one of the rules goes up or stays, though both instances are small;
-- or it is how large the pair is.
pub record LeadDown (Greater : Tree → Tree → Type 0) (terms : RenamedApart) (σ : ℕ → Tree) : Type 0 where
  pub outer_down : IsSmall (apply σ terms.outer_from) → IsSmall (apply σ terms.outer_to) → AtMost Greater (apply σ terms.outer_from) (apply σ terms.outer_to) → ⊥
  pub inner_down : IsSmall (apply σ terms.inner_from) → IsSmall (apply σ terms.inner_to) → AtMost Greater (apply σ terms.inner_from) (apply σ terms.inner_to) → ⊥

pub data StaysUp (Greater : Tree → Tree → Type 0) (terms : RenamedApart) (σ : ℕ → Tree) : Type 0 where
  outer_stays : IsSmall (apply σ terms.outer_from) → IsSmall (apply σ terms.outer_to) → AtMost Greater (apply σ terms.outer_from) (apply σ terms.outer_to) → StaysUp Greater terms σ
  inner_stays : IsSmall (apply σ terms.inner_from) → IsSmall (apply σ terms.inner_to) → AtMost Greater (apply σ terms.inner_from) (apply σ terms.inner_to) → StaysUp Greater terms σ

-- how large the pair of these is
abbrev pub IsSizeBy : Tree → Tree → Tree → Size → Type 0
IsSizeBy top left right Large = IsLarge top ⊎ (IsLarge left ⊎ IsLarge right)
IsSizeBy top left right Same = IsSmall top × IsSmall left × IsSmall right × (left ≡ right)
IsSizeBy top left right (Weight weight) = IsSmall top × IsSmall left × IsSmall right × (left ≡ right → ⊥) × (weight ≡ nodes left + nodes right)

abbrev pub IsJudgedBy : (Tree → Tree → Type 0) → RenamedApart → ℕ → (ℕ → Tree) → Option Size → Type 0
IsJudgedBy Greater terms place σ None = StaysUp Greater terms σ
IsJudgedBy Greater terms place σ (Some size) = LeadDown Greater terms σ × IsSizeBy (apply σ terms.outer_from) (apply σ terms.outer_to) (apply σ (put terms.outer_from place terms.inner_to)) size
