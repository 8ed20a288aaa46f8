-- What fetching files answers.
use Rattle.std.specs.Prelude.{ℕ, ◌≡◌, List, take, Option, Some, None, Result, Ok, Err}
use Rattle.uc_edge.specs.Files.{Files}
use Rattle.uc_edge.specs.Faults.{Rose, IsCounted}
use Rattle.uc_problem.specs.declared.fault.LoadFault.{LoadFault}
use Rattle.uc_problem.specs.declared.fault.LoadFault.TheVariants.{ReadFault, NoMemory}
use Rattle.uc_problem.specs.declared.fetch.Found.{Found}
use Rattle.uc_problem.specs.Loading.{held, first_held, IsTried}

-- the bytes of a file, up to the first that is too many
abbrev pub cut : List ℕ → List ℕ
cut bytes = take 16777217 bytes

-- a refusal: of the library, whose count of faults rose, at the file of this name, or for want of memory
abbrev pub IsFetchFault : ℕ → ℕ → List ℕ → LoadFault → Type 0
IsFetchFault before now name (ReadFault file) = Rose before now × (file ≡ name)
IsFetchFault before now name NoMemory = Unit {0}
IsFetchFault before now name _ = ⊥

-- this name is tried among these, where the files are told
abbrev pub IsToldTried : Option Files → List ℕ → List (List ℕ) → Type 0
IsToldTried None name names = Unit {0}
IsToldTried (Some files) name names = IsTried files name names

-- a refusal where these names are tried one after the other, of the library at one that is tried
abbrev pub IsTriedFault : Option Files → ℕ → ℕ → List (List ℕ) → LoadFault → Type 0
IsTriedFault holds before now names (ReadFault file) = Rose before now × IsToldTried holds file names
IsTriedFault holds before now names NoMemory = Unit {0}
IsTriedFault holds before now names _ = ⊥

-- the file of a name, where the library tells its files
abbrev pub IsAnswer : Option Files → ℕ → ℕ → List ℕ → Result (Option (List ℕ)) LoadFault → Type 0
IsAnswer None before now name (Ok answer) = Unit {0}
IsAnswer (Some files) before now name (Ok None) = held files name ≡ None
IsAnswer (Some files) before now name (Ok (Some bytes)) = (whole : List ℕ) × (held files name ≡ Some whole) × (bytes ≡ cut whole)
IsAnswer holds before now name (Err fault) = IsFetchFault before now name fault

-- the first file that the library holds of these names
abbrev pub IsFirst : Option Files → ℕ → ℕ → List (List ℕ) → Result (Option Found) LoadFault → Type 0
IsFirst None before now names (Ok answer) = Unit {0}
IsFirst (Some files) before now names (Ok None) = first_held files names ≡ None
IsFirst (Some files) before now names (Ok (Some found)) = (whole : List ℕ) × (first_held files names ≡ Some (found.name, whole)) × (found.bytes ≡ cut whole)
IsFirst holds before now names (Err fault) = IsTriedFault holds before now names fault

-- the file at which the library failed, where that is why there is no problem
abbrev pub failing_of : LoadFault → Option (List ℕ)
failing_of (ReadFault file) = Some file
failing_of why = None

-- What a refusal leaves of the faults of the library: no fetch failed, or, where it is the fault of reading a file, the fetch of that
-- file and no other. Want of memory comes either way.
abbrev pub IsFaultedBy : LoadFault → ℕ → ℕ → List (List ℕ) → List (List ℕ) → Type 0
IsFaultedBy NoMemory before now old new = (file : Option (List ℕ)) × IsCounted file before now old new
IsFaultedBy why before now old new = IsCounted (failing_of why) before now old new

-- What loading leaves of them: where it succeeds, no fetch failed.
abbrev pub IsFaulted : {A : Type 0} → Result A LoadFault → ℕ → ℕ → List (List ℕ) → List (List ℕ) → Type 0
IsFaulted (Ok a) before now old new = IsCounted None before now old new
IsFaulted (Err why) before now old new = IsFaultedBy why before now old new
