-- The names that two sets of texts stand for: one of words, one of integers.
use Rattle.std.specs.Prelude.{ℕ, Bool, List, Vec, bytes_eq, if◌then◌else◌}
use Rattle.std.specs.List.{list_any}
use Rattle.std.specs.declared.alloc.Global.{Global}
use Rattle.uc_clause.specs.declared.clause.Name.{Name}

-- whether this text is among the keys
abbrev pub has_text : List (Vec ℕ Global) → List ℕ → Bool
has_text keys text = list_any (λ key. bytes_eq text key.items) keys

-- whether this name is among the words, or as an integer among the integers
abbrev pub has_name : List (Vec ℕ Global) → List (Vec ℕ Global) → Name → Bool
has_name words integers name = if name.integer then has_text integers name.text else has_text words name.text
