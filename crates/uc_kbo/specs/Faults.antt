-- When an order of weights is refused.
use Rattle.std.specs.Prelude.{ℕ, ◌≡◌, ◌<◌, ◌⊎◌, List, [], ◌∷◌, length}
use Rattle.uc_term.specs.declared.node.Sym.{Sym}
use Rattle.uc_term.specs.Table.{Table, arity_of}
use Rattle.uc_order.specs.Members.{In}
use Rattle.uc_order.specs.Precedence.{IsTotalOn, IsPrecedenceFault}
use Rattle.uc_order.specs.declared.spec.OrderFault.{OrderFault}
use Rattle.uc_order.specs.declared.spec.OrderFault.TheVariants.{BadWeight, NotTotal, UnknownSymbol, NoMemory}
use Rattle.uc_kbo.specs.declared.weights.Weighed.{Weighed}

-- the symbols of the precedence with their arities and the weights beside them
abbrev pub weighed : Table → List Sym → List ℕ → List Weighed
weighed table [] ws = []
weighed table (f ∷ fs) [] = []
weighed table (f ∷ fs) (w ∷ ws) = record { symbol = f; arity = arity_of table f; weight = w } ∷ weighed table fs ws

-- the weight is over 1,000,000, or a constant's and below w0, or it is 0 and its symbol isn't both unary and last
abbrev pub IsBad : ℕ → Weighed → List Weighed → Type 0
IsBad w0 e rest = (1000000 < e.weight) ⊎ (((e.arity ≡ 0) × (e.weight < w0)) ⊎ ((e.weight ≡ 0) × (((e.arity ≡ 1) × (length rest ≡ 0)) → ⊥)))

-- e is the first whose weight is bad
pub data FirstBad (w0 : ℕ) : List Weighed → Weighed → Type 0 where
  bad_front : {e : Weighed} {es : List Weighed} → IsBad w0 e es → FirstBad w0 (e ∷ es) e
  bad_rest : {e d : Weighed} {es : List Weighed} → (IsBad w0 e es → ⊥) → FirstBad w0 es d → FirstBad w0 (e ∷ es) d

abbrev pub NoneBad : ℕ → List Weighed → Type 0
NoneBad w0 [] = Unit {0}
NoneBad w0 (e ∷ es) = (IsBad w0 e es → ⊥) × NoneBad w0 es

-- some symbol of the signature is a constant
abbrev pub HasConstant : Table → List Sym → Type 0
HasConstant table signature = (f : Sym) × (In signature f × (arity_of table f ≡ 0))

-- the tests go through the precedence before the weights
abbrev pub IsKboFault : Table → List Sym → ℕ → List ℕ → List Sym → OrderFault → Type 0
IsKboFault table signature w0 weights precedence (BadWeight f n) = IsTotalOn signature precedence × ((e : Weighed) × (FirstBad w0 (weighed table precedence weights) e × ((e.symbol ≡ f) × (e.weight ≡ n))))
IsKboFault table signature w0 weights precedence (NotTotal f) = IsPrecedenceFault signature precedence (NotTotal f)
IsKboFault table signature w0 weights precedence (UnknownSymbol f) = IsPrecedenceFault signature precedence (UnknownSymbol f)
IsKboFault table signature w0 weights precedence NoMemory = Unit {0}
