-- Numbers that a map has for names.
use Rattle.std.specs.Prelude.{◌≡◌, ℕ, Bool, List, Option, Some, Vec, bytes_eq, find, is_none, option_map}
use Rattle.std.specs.Map.{lookup}
use Rattle.std.specs.declared.alloc.Global.{Global}
use Rattle.uc_term.specs.declared.node.Sym.{Sym}
use Rattle.uc_ordering.specs.declared.fault.ChoiceFault.{ChoiceFault}
use Rattle.uc_ordering.specs.declared.fault.ChoiceFault.TheVariants.{UnknownSymbol, NotTotal, BadWeight, NoMemory}
use Rattle.uc_ordering.specs.Weights.{is_bad_at}
use Rattle.uc_term.specs.Table.{Table}

-- the number at this name
abbrev pub number_in : List (Vec ℕ Global × ℕ) → List ℕ → Option ℕ
number_in entries name = lookup (λ key. bytes_eq name key.items) entries

-- the symbol of this number
abbrev pub symbol_in : List (Vec ℕ Global × ℕ) → List ℕ → Option Sym
symbol_in entries name = option_map (λ n. record { 0 = n }) (number_in entries name)

-- a fault is that a name among these is the first that has no number; want of memory is free
abbrev pub IsLacking : List (Vec ℕ Global × ℕ) → List (List ℕ) → ChoiceFault → Type 0
IsLacking entries names (UnknownSymbol name) = find (λ n. is_none (symbol_in entries n)) names ≡ Some name
IsLacking entries names (NotTotal name) = ⊥
IsLacking entries names (BadWeight name weight) = ⊥
IsLacking entries names NoMemory = Unit {0}

-- whether the weight is bad for the symbol that has this name here
abbrev pub is_bad_in : Table → ℕ → List (Vec ℕ Global × ℕ) → List Sym → List ℕ × ℕ → Bool
is_bad_in table w0 entries precedence p = is_bad_at table w0 precedence (symbol_in entries p.0) p.1

-- a fault is that one of these weights is the first that is bad; want of memory is free
abbrev pub IsBadAmong : Table → ℕ → List (Vec ℕ Global × ℕ) → List Sym → List (List ℕ × ℕ) → ChoiceFault → Type 0
IsBadAmong table w0 entries precedence weights (UnknownSymbol name) = ⊥
IsBadAmong table w0 entries precedence weights (NotTotal name) = ⊥
IsBadAmong table w0 entries precedence weights (BadWeight name weight) = find (is_bad_in table w0 entries precedence) weights ≡ Some (name, weight)
IsBadAmong table w0 entries precedence weights NoMemory = Unit {0}

-- a fault is that this name stands twice; want of memory is free
abbrev pub IsAgain : Option (List ℕ) → ChoiceFault → Type 0
IsAgain again (UnknownSymbol name) = ⊥
IsAgain again (NotTotal name) = again ≡ Some name
IsAgain again (BadWeight name weight) = ⊥
IsAgain again NoMemory = Unit {0}
