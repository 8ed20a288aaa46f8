-- What a sink is given, and what it has taken.
use Rattle.std.specs.Prelude.{ℕ, ◌≡◌, ◌+◌, ◌<◌, ◌≤◌, List, [], ◌∷◌, ◌++◌, length, take, drop, Option, Result, Ok, Err}
use Rattle.std.specs.Io.KnownBytes.{Appends, Keeps}
use Rattle.uc_edge.specs.Faults.{Rose, next}
use Rattle.uc_edge.specs.declared.sink.WriteFault.{WriteFault}
use Rattle.uc_edge.specs.declared.sink.Written.{Written}
use Rattle.uc_edge.specs.declared.sink.Written.TheVariants.{Taken, Failed}

-- what a write of this piece may answer, and what has been written then: a front of the piece more, at least a byte
-- where there is one, or nothing more
abbrev pub IsWritten : Option (List ℕ) → Option (List ℕ) → List ℕ → Written → Type 0
IsWritten old new piece (Taken n) = (n ≤ length piece) × (0 < length piece → 0 < n) × Appends old new (take n piece)
IsWritten old new piece Failed = Keeps old new

-- a piece was written whole; or a proper prefix of it, and then the sink failed
abbrev pub IsPut : Option (List ℕ) → Option (List ℕ) → ℕ → ℕ → List ℕ → Result (Unit {0}) WriteFault → Type 0
IsPut old new before now piece (Ok u) = Appends old new piece
IsPut old new before now piece (Err e) = (n : ℕ) × (n < length piece) × Appends old new (take n piece) × Rose before now

-- what a write leaves of the count of faults
abbrev pub counted : Written → ℕ → ℕ
counted (Taken n) count = count
counted Failed count = next count

-- What putting a piece leaves of it: at most one write failed.
abbrev pub counted_put : Result (Unit {0}) WriteFault → ℕ → ℕ
counted_put (Ok u) count = count
counted_put (Err e) count = next count

-- the pieces in which a text goes to a sink until so many bytes of it are taken: each is all of it that isn't taken yet
pub data GoesIn (text : List ℕ) : ℕ → List (List ℕ) → Type 0 where
  begins : GoesIn text 0 []
  goes_on : {from n : ℕ} {pieces : List (List ℕ)} → GoesIn text from pieces → 0 < n → from + n ≤ length text → GoesIn text (from + n) (pieces ++ drop from text ∷ [])

-- The pieces that a sink is given where a text is put: all of those, and last, where it failed, the one of which it took nothing.
pub data IsGiven (text : List ℕ) : List (List ℕ) → Result (Unit {0}) WriteFault → Type 0 where
  takes_all : {pieces : List (List ℕ)} {u : Unit {0}} → GoesIn text (length text) pieces → IsGiven text pieces (Ok u)
  fails_at : {from : ℕ} {pieces : List (List ℕ)} {e : WriteFault} → GoesIn text from pieces → from < length text → IsGiven text (pieces ++ drop from text ∷ []) (Err e)

-- these pieces more
abbrev pub Gives : List ℕ → List (List ℕ) → List (List ℕ) → Result (Unit {0}) WriteFault → Type 0
Gives text old new answer = (pieces : List (List ℕ)) × (new ≡ old ++ pieces) × IsGiven text pieces answer
