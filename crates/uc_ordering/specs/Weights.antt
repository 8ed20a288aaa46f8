-- The weights that an option gives to names.
use Rattle.std.specs.Prelude.{ℕ, ◌==◌, ◌&&◌, ◌||◌, not, nat_lt, max, fold, Bool, false, List, [], ◌∷◌, Option, Some, None, unwrap_or, bytes_eq, if◌then◌else◌}
use Rattle.uc_term.specs.declared.node.Sym.{Sym}
use Rattle.uc_term.specs.Table.{Table, name_of, arity_of}
use Rattle.uc_term.specs.Signatures.{first_named, same_symbol}

abbrev pub MAX_WEIGHT : ℕ
MAX_WEIGHT = 1000000

-- the weight that is given to a name, if one is
abbrev pub weight_given : List (List ℕ × ℕ) → List ℕ → Option ℕ
weight_given [] name = None
weight_given (p ∷ ps) name = if bytes_eq p.0 name then Some p.1 else weight_given ps name

-- whether it is the last of them
abbrev pub is_last : List Sym → Sym → Bool
is_last [] f = false
is_last (g ∷ []) f = same_symbol g f
is_last (g ∷ h ∷ hs) f = is_last (h ∷ hs) f

module _ (table : Table) (w0 : ℕ) where
  -- the weight is too great, or a constant's and below w0, or 0 and the symbol isn't both unary and last in the precedence
  abbrev pub is_bad : List Sym → Sym → ℕ → Bool
  is_bad precedence f w = nat_lt MAX_WEIGHT w || (((arity_of table f == 0) && nat_lt w w0) || ((w == 0) && not ((arity_of table f == 1) && is_last precedence f)))

  -- the same, where there is a symbol
  abbrev pub is_bad_at : List Sym → Option Sym → ℕ → Bool
  is_bad_at precedence None w = false
  is_bad_at precedence (Some f) w = is_bad precedence f w

  -- the same of a weight that is given to a name of one of the own symbols
  abbrev pub is_bad_for : List Sym → List Sym → List ℕ × ℕ → Bool
  is_bad_for own precedence p = is_bad_at precedence (first_named table p.0 own) p.1

  module _ (given : List (List ℕ × ℕ)) where
    -- a symbol to whose name no weight is given weighs w0
    abbrev pub weight_of : Sym → ℕ
    weight_of f = unwrap_or (weight_given given (name_of table f)) w0

    -- the weight of the heaviest constant
    abbrev pub heaviest : List Sym → ℕ
    heaviest fs = fold (λ n f. if arity_of table f == 0 then max n (weight_of f) else n) 0 fs
