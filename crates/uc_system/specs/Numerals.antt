-- Numbers as a system's text has them.
use Rattle.std.specs.Prelude.{ℕ, ◌==◌, ◌&&◌, not, Bool, false, List, [], ◌∷◌}
use Rattle.std.specs.List.{list_all}
use Rattle.std.specs.Str.Parse.{digits_value}
use Rattle.uc_clause.specs.Bytes.{is_digit}

-- one or more decimal digits, the first of several not `0`
abbrev pub is_numeral : List ℕ → Bool
is_numeral [] = false
is_numeral (b ∷ []) = is_digit b
is_numeral (b ∷ c ∷ bs) = (is_digit b && not (b == 48)) && list_all is_digit (c ∷ bs)

-- the number that decimal digits write; none write 0
abbrev pub value_of : List ℕ → ℕ
value_of ds = digits_value 10 ds
