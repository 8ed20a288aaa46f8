-- What a sink was told.
use Rattle.std.specs.Prelude.{ℕ, ◌≡◌, ◌<◌, List, length, take, Option}
use Rattle.std.specs.Io.KnownBytes.{Appends}
use Rattle.uc_edge.specs.Faults.{Rose, next}

-- The sink was given the whole text, and the status is the text's own; or a proper prefix of it, the sink's count of faults
-- rose, and the status is 6.
pub data IsTold (old new : Option (List ℕ)) (before now : ℕ) (text : List ℕ) (status : ℕ) : ℕ → Type 0 where
  told : Appends old new text → IsTold old new before now text status status
  cut_short : {n : ℕ} → n < length text → Appends old new (take n text) → Rose before now → IsTold old new before now text status 6

-- What writing an answer of this status leaves of the sink's count of faults: no write failed, and the status is the answer's own;
-- or one did, and no other, and the status is 6.
pub data CountsWrites (before now status : ℕ) : ℕ → Type 0 where
  no_write_fails : now ≡ before → CountsWrites before now status status
  one_write_fails : now ≡ next before → CountsWrites before now status 6
