-- The ranks of symbols: their places in a precedence.
use Rattle.std.specs.Prelude.{ℕ, zero, suc, ◌+◌, ◌==◌, List, [], ◌∷◌, slice_index, if◌then◌else◌}
use Rattle.uc_term.specs.declared.node.Sym.{Sym}

-- one more, for a symbol that stands behind another one
abbrev pub moved : ℕ → ℕ
moved zero = 0
moved (suc n) = n + 2

-- the symbol's place in the precedence, which begins with the least, from 1; 0 where it isn't there
abbrev pub rank_in : List Sym → Sym → ℕ
rank_in [] f = 0
rank_in (g ∷ gs) f = if g.0 == f.0 then 1 else moved (rank_in gs f)

-- the arity that stands at the symbol's place in the precedence; 0 where it isn't there
abbrev pub arity_in : List Sym → List ℕ → Sym → ℕ
arity_in [] ns f = 0
arity_in (g ∷ gs) [] f = 0
arity_in (g ∷ gs) (n ∷ ns) f = if g.0 == f.0 then n else arity_in gs ns f

-- the rank that a table has at the symbol's number, and 0 past its end
abbrev pub rank_of : List ℕ → Sym → ℕ
rank_of ranks f = slice_index ranks f.0
