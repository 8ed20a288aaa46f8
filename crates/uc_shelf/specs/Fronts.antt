-- A front is of a shelf where all its places are of that shelf.
use Rattle.std.specs.Prelude.{◌≡◌, ℕ, List, All}
use Rattle.boxcar.specs.Table.{Shelves, id_at}
use Rattle.uc_shelf.specs.Sights.{Sight}

-- these places are of the shelf
abbrev pub AreAt : Shelves → List (ℕ × ℕ) → Type 0
AreAt shelf homes = All (λ (h : ℕ × ℕ). h.1 ≡ id_at shelf.buckets h.0) homes

abbrev pub IsOf : Shelves → Sight → Type 0
IsOf shelf front = All (λ (h : ℕ × ℕ). h.1 ≡ id_at shelf.buckets h.0) front.homes
