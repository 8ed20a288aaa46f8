-- Lists of names.
use Rattle.std.specs.Prelude.{◌≡◌, ℕ, List, Some, slice_get}

-- no name stands at two places
abbrev pub AreDistinct : List (List ℕ) → Type 0
AreDistinct seen = (i j : ℕ) (x : List ℕ) → slice_get seen i ≡ Some x → slice_get seen j ≡ Some x → i ≡ j
