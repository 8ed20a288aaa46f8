-- How the overlaps are added to a list.
use Rattle.std.specs.Prelude.{ℕ, ◌≡◌, ◌++◌, List, [], ◌∷◌, Option, Some, None}
use Rattle.uc_fact.specs.Live.{Rule}
use Rattle.uc_pair.specs.declared.formed.Size.{Size}
use Rattle.uc_pair.specs.declared.formed.Formed.{Formed}
use Rattle.uc_pair.specs.Judging.{formed_at}

-- the new list is the old one with such a list behind it
abbrev pub Adds : (List Formed → Type 0) → List Formed → List Formed → Type 0
Adds P old new = (added : List Formed) × P added × (new ≡ old ++ added)

-- the overlap at the place is behind the old list, where it has a size
abbrev pub AddsAt : Rule → Rule → ℕ → Option Size → List Formed → List Formed → Type 0
AddsAt outer inner place None old new = new ≡ old
AddsAt outer inner place (Some size) old new = new ≡ old ++ formed_at outer inner place size ∷ []
