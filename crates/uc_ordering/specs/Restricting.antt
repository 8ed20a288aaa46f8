-- The order of some symbols alone.
use Rattle.std.specs.Prelude.{ℕ, Bool, List, [], ◌∷◌, filter, if◌then◌else◌}
use Rattle.std.specs.List.{list_any}
use Rattle.uc_term.specs.declared.node.Sym.{Sym}
use Rattle.uc_term.specs.Signatures.{same_symbol}
use Rattle.uc_order.specs.declared.spec.OrderSpec.{OrderSpec}
use Rattle.uc_order.specs.declared.spec.OrderSpec.TheVariants.{Kbo, Lpo}

abbrev pub is_one_of : List Sym → Sym → Bool
is_one_of own f = list_any (same_symbol f) own

-- the weights that stand beside these symbols in a precedence
abbrev pub weights_beside : List Sym → List Sym → List ℕ → List ℕ
weights_beside own [] ws = []
weights_beside own (f ∷ fs) [] = []
weights_beside own (f ∷ fs) (w ∷ ws) = if is_one_of own f then w ∷ weights_beside own fs ws else weights_beside own fs ws

-- the description of an order without other symbols than these, and without their weights
abbrev pub restricted : List Sym → OrderSpec → OrderSpec
restricted own (Kbo w0 weights precedence) = Kbo w0 (weights_beside own precedence weights) (filter (is_one_of own) precedence)
restricted own (Lpo precedence) = Lpo (filter (is_one_of own) precedence)
