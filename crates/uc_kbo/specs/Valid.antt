-- What every order of weights keeps has at most one proof.
use Rattle.std.specs.Prelude.{ℕ, ◌≡◌, List, [], ◌∷◌}
use Rattle.std.specs.Coded.{×_prop, Unit-prop}
use Rattle.std.proofs.Props.{props}
use Rattle.uc_term.specs.declared.node.Sym.{Sym}
use Rattle.uc_order.specs.Members.{In, AreDistinct}
use Rattle.uc_kbo.specs.declared.weights.Weighed.{Weighed}
use Rattle.uc_kbo.specs.declared.weights.Slot.{Slot}
use Rattle.uc_kbo.specs.Weights.{symbols_of, weight_in, rank_in, IsFit, AreFit, IsTable}
use Rattle.uc_kbo.specs.Runs.{weight_at, rank_at}

-- the slots say what the table says
abbrev pub IsTied : ℕ → List Weighed → List Slot → Type 0
IsTied w0 es table = (f : Sym) (n : ℕ) → (weight_at w0 table f n ≡ weight_in w0 es f n) × (rank_at w0 table f n ≡ rank_in 1 es f n)

not_in_prop : (fs : List Sym) (f : Sym) → IsProp (In fs f → ⊥)
not_in_prop fs f = hlevel props

distinct_prop : (fs : List Sym) → IsProp (AreDistinct fs)
distinct_prop [] = Unit-prop
distinct_prop (f ∷ fs) = ×_prop (not_in_prop fs f) (distinct_prop fs)

one_fit_prop : (w0 : ℕ) (e : Weighed) (es : List Weighed) → IsProp (IsFit w0 e es)
one_fit_prop w0 e es = hlevel props

fit_prop : (w0 : ℕ) (es : List Weighed) → IsProp (AreFit w0 es)
fit_prop w0 [] = Unit-prop
fit_prop w0 (e ∷ es) = ×_prop (one_fit_prop w0 e es) (fit_prop w0 es)

pub IsTable-prop : (w0 : ℕ) (es : List Weighed) → IsProp (IsTable w0 es)
IsTable-prop w0 es = hlevel (props, distinct_prop (symbols_of es), fit_prop w0 es)

pub IsTied-prop : (w0 : ℕ) (es : List Weighed) (table : List Slot) → IsProp (IsTied w0 es table)
IsTied-prop w0 es table = hlevel props
