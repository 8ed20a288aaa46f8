-- The table that names and keys are: a key has the place of its name among the names, so that no name is kept twice.
use Rattle.std.specs.Prelude.{List, Vec, ℕ, [], ◌≡◌, ◌<◌, map, length, get_or, slice_get, Some}
use Rattle.std.specs.declared.alloc.Global.{Global}
use Rattle.uc_term.specs.Table.{Table, Entry}
use Rattle.uc_term.specs.declared.symbols.Key.{Key}

abbrev pub names_of : List (Vec ℕ Global) → List (List ℕ)
names_of list = map (λ name. name.items) list

-- no name has two places
abbrev pub AreDifferent : List (List ℕ) → Type 0
AreDifferent names = (i j : ℕ) (name : List ℕ) → slice_get names i ≡ Some name → slice_get names j ≡ Some name → i ≡ j

abbrev pub entry_of_key : List (List ℕ) → Key → Entry
entry_of_key names k = record { name = get_or names k.place []; arity = k.arity }

abbrev pub table_of : List (List ℕ) → List Key → Table
table_of names keys = map (entry_of_key names) keys

-- the name of each key is among the names
abbrev pub AreNamed : List (List ℕ) → List Key → Type 0
AreNamed names keys = (i : ℕ) (k : Key) → slice_get keys i ≡ Some k → k.place < length names
