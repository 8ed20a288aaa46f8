-- Places that stand one behind another on a shelf.
use Rattle.std.specs.Prelude.{ℕ, ◌≡◌, ◌+◌, List, slice_get, Some}
use Rattle.boxcar.specs.Table.{Where}
use Rattle.uc_shelf.specs.declared.entry.Entry.{Entry}

-- the indexes are n and those after it
abbrev pub AreInRow : ℕ → List (Where Entry) → Type 0
AreInRow n places = (k : ℕ) (p : Where Entry) → slice_get places k ≡ Some p → p.index ≡ n + k

-- the places of two lists have the same indexes, one by one
abbrev pub HaveSameIndexes : List (Where Entry) → List (Where Entry) → Type 0
HaveSameIndexes ps qs = (k : ℕ) (p q : Where Entry) → slice_get ps k ≡ Some p → slice_get qs k ≡ Some q → p.index ≡ q.index
