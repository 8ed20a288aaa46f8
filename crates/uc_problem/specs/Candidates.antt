-- Under which names an included file is looked for.
use Rattle.std.specs.Prelude.{ℕ, ◌==◌, Bool, false, List, [], ◌∷◌, ◌++◌, Option, Some, None, if◌then◌else◌}
use Rattle.std.specs.List.{list_any}

-- the name up to and with its last slash, or nothing where it has none
abbrev pub folder_of : List ℕ → List ℕ
folder_of [] = []
folder_of (b ∷ bs) = if list_any (λ c. c == 47) (b ∷ bs) then b ∷ folder_of bs else []

abbrev pub begins_with_slash : List ℕ → Bool
begins_with_slash [] = false
begins_with_slash (b ∷ bs) = b == 47

-- the name in the root, where one is given
abbrev pub in_root : Option (List ℕ) → List ℕ → List (List ℕ)
in_root None name = []
in_root (Some root) name = (root ++ 47 ∷ name) ∷ []

-- a name that begins with a slash is looked for as it stands; any other in the problem's folder, then in the root
abbrev pub candidates : List ℕ → Option (List ℕ) → List ℕ → List (List ℕ)
candidates folder root name = if begins_with_slash name then name ∷ [] else (folder ++ name) ∷ in_root root name
