-- Counts of faults, and what calls leave of them.
use Rattle.std.specs.Prelude.{ℕ, ◌≡◌, ◌+◌, ◌-◌, ◌^◌, ◌≤◌, min, max, List, [], ◌∷◌, ◌++◌, Option, Some, None}

-- a count rose: it is greater than before, or stands at the greatest u64
abbrev pub Rose : ℕ → ℕ → Type 0
Rose before now = min (before + 1) (2 ^ 64 - 1) ≤ now

-- one more, up to the greatest u64 (a count past it would stay)
abbrev pub next : ℕ → ℕ
next n = max n (min (n + 1) (2 ^ 64 - 1))

-- What calls of a library leave of its count of faults, and of the names at which it failed: as they were, where no fetch failed;
-- or one more of each, where the fetch of this name failed and no other.
abbrev pub IsCounted : Option (List ℕ) → ℕ → ℕ → List (List ℕ) → List (List ℕ) → Type 0
IsCounted None before now old new = (now ≡ before) × (new ≡ old)
IsCounted (Some name) before now old new = (now ≡ next before) × (new ≡ old ++ name ∷ [])
