-- The table of an order: the symbols of its signature with their weights, the least in the precedence first.
use Rattle.std.specs.Prelude.{ℕ, ◌+◌, ◌<◌, ◌≤◌, ◌≡◌, ◌==◌, ◌&&◌, Bool, List, [], ◌∷◌, length, map, count_by, nat_lt, Option, Some, None, if◌then◌else◌}
use Rattle.uc_term.specs.declared.node.Sym.{Sym}
use Rattle.uc_order.specs.Members.{AreDistinct}
use Rattle.uc_order.specs.Laws.{Meaning}
use Rattle.uc_kbo.specs.declared.weights.Weighed.{Weighed}
use Rattle.uc_kbo.specs.Kbo.{Weighing, KboGreater, KboUnder}

abbrev pub symbols_of : List Weighed → List Sym
symbols_of es = map (λ e. e.symbol) es

-- it is the entry of this symbol with so many arguments
abbrev pub is_entry : Weighed → Sym → ℕ → Bool
is_entry e f n = (e.symbol.0 == f.0) && (e.arity == n)

-- the weight of a symbol with so many arguments; one that the table lacks weighs w0
abbrev pub weight_in : ℕ → List Weighed → Sym → ℕ → ℕ
weight_in w0 [] f n = w0
weight_in w0 (e ∷ es) f n = if is_entry e f n then e.weight else weight_in w0 es f n

-- its place, counted from k; one that the table lacks stands below all, at 0
abbrev pub rank_in : ℕ → List Weighed → Sym → ℕ → ℕ
rank_in k [] f n = 0
rank_in k (e ∷ es) f n = if is_entry e f n then k else rank_in (k + 1) es f n

abbrev pub arity_in : List Weighed → Sym → ℕ
arity_in [] f = 0
arity_in (e ∷ es) f = if e.symbol.0 == f.0 then e.arity else arity_in es f

-- the lightest constant, and of several the least in the precedence
abbrev pub lighter_of : Weighed → Option Weighed → Option Weighed
lighter_of e None = Some e
lighter_of e (Some d) = if nat_lt d.weight e.weight then Some d else Some e

abbrev pub least_constant : List Weighed → Option Weighed
least_constant [] = None
least_constant (e ∷ es) = if e.arity == 0 then lighter_of e (least_constant es) else least_constant es

abbrev pub symbol_or : Option Weighed → Sym
symbol_or None = record { 0 = 0 }
symbol_or (Some e) = e.symbol

abbrev pub weighing : ℕ → List Weighed → Weighing
weighing w0 es = record { w0 = w0; weight_of = weight_in w0 es; rank = rank_in 1 es }

-- a constant weighs at least w0; and what weighs 0 is unary and last in the precedence
abbrev pub IsFit : ℕ → Weighed → List Weighed → Type 0
IsFit w0 e rest = (e.arity ≡ 0 → w0 ≤ e.weight) × (e.weight ≡ 0 → (e.arity ≡ 1) × (length rest ≡ 0))

abbrev pub AreFit : ℕ → List Weighed → Type 0
AreFit w0 [] = Unit {0}
AreFit w0 (e ∷ es) = IsFit w0 e es × AreFit w0 es

-- what every table keeps: variables weigh something, no symbol stands in it twice, there is a constant, the weights fit
pub record IsTable (w0 : ℕ) (es : List Weighed) : Type 0 where
  pub some_weight : 0 < w0
  pub distinct : AreDistinct (symbols_of es)
  pub constant : 0 < count_by (λ e. e.arity == 0) es
  pub fit : AreFit w0 es

-- what the order of the table says
abbrev pub kbo_meaning : ℕ → List Weighed → Meaning
kbo_meaning w0 es = record {
  symbols = symbols_of es;
  arity = arity_in es;
  greater = KboGreater (weighing w0 es);
  under = KboUnder (weighing w0 es);
  least = symbol_or (least_constant es);
}
