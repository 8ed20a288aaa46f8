-- Segments: runs of a front's entries, each a power of two long, the longest first.
use Rattle.std.specs.Prelude.{◌≡◌, ℕ, ◌+◌, ◌<◌, ◌≤◌, ◌^◌, List, [], ◌∷◌, ◌++◌, All, drop, take, map, length}
use Rattle.boxcar.specs.Table.{Shelves, id_at}
use Rattle.std.specs.List.{flat_map}
use Rattle.std.specs.declared.sync.Arc.{Arc}
use Rattle.uc_shelf.specs.declared.entry.Entry.{Entry}
use Rattle.uc_shelf.specs.Entries.{born}

-- what contracts see of a segment: how many facts are born before it, its entries, and where their places are
pub record Stretch : Type 0 where
  pub base : ℕ
  pub entries : List Entry
  pub homes : List (ℕ × ℕ)

module _ {Z : Type 0} where
  abbrev pub entries_of : List (Arc Stretch Z) → List Entry
  entries_of segments = flat_map (λ s. s.value.entries) segments

  abbrev pub homes_in : List (Arc Stretch Z) → List (ℕ × ℕ)
  homes_in segments = flat_map (λ s. s.value.homes) segments

  abbrev pub sizes_of : List (Arc Stretch Z) → List ℕ
  sizes_of segments = map (λ s. length s.value.entries) segments

  -- n facts are born before the first, and each says so of itself
  abbrev pub AreBased : ℕ → List (Arc Stretch Z) → Type 0
  AreBased n [] = Unit {0}
  AreBased n (s ∷ ss) = (s.value.base ≡ n) × AreBased (n + length (born s.value.entries)) ss

-- powers of two that fall, below the k-th, the last not below the j-th
abbrev pub Falls : ℕ → ℕ → List ℕ → Type 0
Falls k j [] = j ≤ k
Falls k j (x ∷ xs) = (i : ℕ) × (i < k) × (x ≡ 2 ^ i) × Falls i j xs

-- the segment is a run of these entries
pub record IsRunOf (all : List Entry) (s : Stretch) : Type 0 where
  pub before : List Entry
  pub behind : List Entry
  pub all_is : all ≡ before ++ (s.entries ++ behind)
  pub base_is : s.base ≡ length (born before)

-- the segment has the entries of the last so many segments and one more, at their places and at its own
pub record Merges {Z : Type 0} (segments : List (Arc Stretch Z)) (keep : ℕ) (entry : Entry) (home : ℕ × ℕ) (s : Stretch) : Type 0 where
  pub base_is : s.base ≡ length (born (entries_of (take keep segments)))
  pub entries_are : s.entries ≡ entries_of (drop keep segments) ++ entry ∷ []
  pub homes_are : s.homes ≡ homes_in (drop keep segments) ++ home ∷ []

-- the segments themselves, whoever shares them
abbrev pub values_of : {Z : Type 0} → List (Arc Stretch Z) → List Stretch
values_of segments = map (λ s. s.value) segments

-- the fact of a number is born in this run of entries, whose places are among those of all
pub record IsIn (all : List Entry) (homes : List (ℕ × ℕ)) (number : ℕ) (s : Stretch) : Type 0 where
  pub run : IsRunOf all s
  pub from_base : s.base ≤ number
  pub below : number < s.base + length (born s.entries)
  pub at_home : (shelf : Shelves) → All (λ (h : ℕ × ℕ). h.1 ≡ id_at shelf.buckets h.0) homes → All (λ (h : ℕ × ℕ). h.1 ≡ id_at shelf.buckets h.0) s.homes
