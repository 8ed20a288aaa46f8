-- What a library holds, and what it may answer of it.
use Rattle.std.specs.Prelude.{◌≡◌, ℕ, List, [], ◌∷◌, take, Option, Some, None, Result, Ok, Err, if◌then◌else◌}
use Rattle.std.specs.Str.{bytes_eq}
use Rattle.uc_edge.specs.declared.library.Fetched.{Fetched}
use Rattle.uc_edge.specs.declared.library.Fetched.TheVariants.{Found, Absent, Failed}

-- names with their contents
abbrev pub Files : Type 0
Files = List (List ℕ × List ℕ)

-- the content of the first file of this name
abbrev pub content : Files → List ℕ → Option (List ℕ)
content [] name = None
content (file ∷ files) name = if bytes_eq file.0 name then Some file.1 else content files name

-- what a fetch of at most this many bytes may answer: the front of the named content, or that there is no such name,
-- where the files are told; a failure is always allowed here, and comes only where the count of faults rose
abbrev pub IsFetched : Option Files → List ℕ → ℕ → Fetched → Type 0
IsFetched None name most answer = Unit {0}
IsFetched (Some files) name most (Found text) = (bytes : List ℕ) × (content files name ≡ Some bytes) × (text ≡ take most bytes)
IsFetched (Some files) name most Absent = content files name ≡ None
IsFetched (Some files) name most Failed = Unit {0}

-- the name at which a fetch of this name failed, where its answer is that it did
abbrev pub failing : {E : Type 0} → List ℕ → Result Fetched E → Option (List ℕ)
failing name (Ok (Found text)) = None
failing name (Ok Absent) = None
failing name (Ok Failed) = Some name
failing name (Err e) = None
