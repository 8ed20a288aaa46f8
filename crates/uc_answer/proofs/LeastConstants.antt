-- The least constant of an order that fits a signature is a constant of the table.
use Rattle.std.proofs.Common.{◌⊎◌, inl, inr, ℕ, ◌≡◌, ◌==◌, nat_lt, Bool, true, false, List, [], ◌∷◌, length, Option, Some, None, if◌then◌else◌, refl, sym, ap, ◌∙◌, subst, arith}
use Rattle.std.proofs.lemmas.Bool.{eqb-true, eq-eqb}
use Rattle.uc_term.specs.declared.node.Sym.{Sym}
use Rattle.uc_term.specs.Tree.{app, none}
use Rattle.uc_term.specs.Table.{Table, Has, IsOf, arity_of}
use Rattle.uc_term.specs.Signatures.{first_constant}
use Rattle.uc_order.specs.Members.{In, in_front, in_rest, Each}
use Rattle.uc_order.specs.declared.spec.OrderSpec.{OrderSpec}
use Rattle.uc_order.specs.declared.spec.OrderSpec.TheVariants.{Kbo, Lpo}
use Rattle.uc_kbo.specs.declared.weights.Weighed.{Weighed}
use Rattle.uc_kbo.specs.Faults.{weighed}
use Rattle.uc_kbo.specs.Weights.{lighter_of, least_constant, symbol_or}
use Rattle.uc_ordering.specs.Fits.{Fits}
use Rattle.uc_ordering.specs.Meaning.{or_first, meaning_of}

each_of : (P : Sym → Type 0) (fs : List Sym) (f : Sym) → Each P fs → In fs f → P f
each_of P [] f h i = elim i [ ]
each_of P (g ∷ fs) _ h in_front = h.0
each_of P (g ∷ fs) f h (in_rest i) = each_of P fs f h.1 i

by_lighter : (d : Weighed) (o : Option Weighed) (e : Weighed) → lighter_of d o ≡ Some e → (d ≡ e) ⊎ (o ≡ Some e)
by_lighter d None e h = inl cc
by_lighter d (Some c) e h = go (nat_lt c.weight d.weight) h
  where
    go : (b : Bool) → (if b then Some c else Some d) ≡ Some e → (d ≡ e) ⊎ (Some c ≡ Some e)
    go true k = inr k
    go false k = inl cc

lighter_some : (d : Weighed) (o : Option Weighed) → (e : Weighed) × (lighter_of d o ≡ Some e)
lighter_some d None = (d, refl)
lighter_some d (Some c) = go (nat_lt c.weight d.weight)
  where
    go : (b : Bool) → (e : Weighed) × ((if b then Some c else Some d) ≡ Some e)
    go true = (c, refl)
    go false = (d, refl)

module _ (table : Table) where
  abbrev IsConstantIn : List Sym → Sym → Type 0
  IsConstantIn fs c = In fs c × (arity_of table c ≡ 0)

  -- the first constant
  first_is : (fs : List Sym) (c : Sym) → first_constant table fs ≡ Some c → IsConstantIn fs c
  first_is [] c e = absurd cc
  first_is (f ∷ fs) c e = go (arity_of table f == 0) refl e (first_is fs c)
    where
      go : (b : Bool) → (arity_of table f == 0) ≡ b → (if b then Some f else first_constant table fs) ≡ Some c → (first_constant table fs ≡ Some c → IsConstantIn fs c) → IsConstantIn (f ∷ fs) c
      go true h k later = let same : f ≡ c = cc in subst (IsConstantIn (f ∷ fs)) same (in_front, eqb-true (arity_of table f) 0 h)
      go false h k later = let p = later k in (in_rest p.0, p.1)

  first_some : (fs : List Sym) (f : Sym) → In fs f → arity_of table f ≡ 0 → (c : Sym) × (first_constant table fs ≡ Some c)
  first_some [] f i e = elim i [ ]
  first_some (g ∷ fs) _ in_front e = (g, ap (λ b. if b then Some g else first_constant table fs) (eq-eqb (arity_of table g) 0 e))
  first_some (g ∷ fs) f (in_rest i) e = go (arity_of table g == 0) (first_some fs f i e)
    where
      go : (b : Bool) → (c : Sym) × (first_constant table fs ≡ Some c) → (c : Sym) × ((if b then Some g else first_constant table fs) ≡ Some c)
      go true p = (g, refl)
      go false p = p

  -- the lightest one
  least_is : (fs : List Sym) (ws : List ℕ) (e : Weighed) → least_constant (weighed table fs ws) ≡ Some e → IsConstantIn fs e.symbol
  least_is [] ws e k = absurd cc
  least_is (f ∷ fs) [] e k = absurd cc
  least_is (f ∷ fs) (w ∷ ws) e k = go (arity_of table f == 0) refl k (least_is fs ws e)
    where
      here : Weighed
      here = record { symbol = f; arity = arity_of table f; weight = w }

      rest : Option Weighed
      rest = least_constant (weighed table fs ws)

      go : (b : Bool) → (arity_of table f == 0) ≡ b → (if b then lighter_of here rest else rest) ≡ Some e → (rest ≡ Some e → IsConstantIn fs e.symbol) → IsConstantIn (f ∷ fs) e.symbol
      go false h k later = let p = later k in (in_rest p.0, p.1)
      go true h k later = or_later (by_lighter here rest e k)
        where
          or_later : (here ≡ e) ⊎ (rest ≡ Some e) → IsConstantIn (f ∷ fs) e.symbol
          or_later (inl same) = subst (λ (d : Weighed). IsConstantIn (f ∷ fs) d.symbol) same (in_front, eqb-true (arity_of table f) 0 h)
          or_later (inr q) = let p = later q in (in_rest p.0, p.1)

  least_some : (fs : List Sym) (ws : List ℕ) (f : Sym) → length ws ≡ length fs → In fs f → arity_of table f ≡ 0 → (e : Weighed) × (least_constant (weighed table fs ws) ≡ Some e)
  least_some [] ws f n i e = elim i [ ]
  least_some (g ∷ fs) [] f n i e = absurd (omega (arith, n))
  least_some (g ∷ fs) (w ∷ ws) _ n in_front e =
      let p = lighter_some (record { symbol = g; arity = arity_of table g; weight = w }) (least_constant (weighed table fs ws)) in
      (p.0, ap (λ b. if b then lighter_of (record { symbol = g; arity = arity_of table g; weight = w }) (least_constant (weighed table fs ws)) else least_constant (weighed table fs ws)) (eq-eqb (arity_of table g) 0 e) ∙ p.1)
  least_some (g ∷ fs) (w ∷ ws) f n (in_rest i) e = go (arity_of table g == 0) (least_some fs ws f (omega (arith, n)) i e)
    where
      here : Weighed
      here = record { symbol = g; arity = arity_of table g; weight = w }

      rest : Option Weighed
      rest = least_constant (weighed table fs ws)

      go : (b : Bool) → (d : Weighed) × (rest ≡ Some d) → (d : Weighed) × ((if b then lighter_of here rest else rest) ≡ Some d)
      go true p = lighter_some here rest
      go false p = p

  module _ (signature : List Sym) where
    -- the constant that the order has
    abbrev HasLeast : OrderSpec → Type 0
    HasLeast (Kbo w0 weights precedence) = (e : Weighed) × (least_constant (weighed table precedence weights) ≡ Some e)
    HasLeast (Lpo precedence) = (c : Sym) × (first_constant table precedence ≡ Some c)

    has_least : (spec : OrderSpec) → Fits table signature spec → HasLeast spec
    has_least (Kbo w0 weights precedence) fits = least_some precedence weights fits.constant.0 fits.total.1.as_many (each_of (In precedence) signature fits.constant.0 fits.total.0.2 fits.constant.1.0) fits.constant.1.1
    has_least (Lpo precedence) fits = first_some precedence fits.constant.0 (each_of (In precedence) signature fits.constant.0 fits.total.2 fits.constant.1.0) fits.constant.1.1

    of_table : (precedence : List Sym) (c : Sym) → Each (Has table) signature → Each (In signature) precedence → IsConstantIn precedence c → IsOf table (app c none)
    of_table precedence c has known p = (each_of (Has table) signature c has (each_of (In signature) precedence c known p.0), sym p.1, tt)

    pub least_of : (spec : OrderSpec) → Fits table signature spec → IsOf table (app (meaning_of table spec).least none)
    least_of (Kbo w0 weights precedence) fits =
        let p = has_least (Kbo w0 weights precedence) fits in
        subst (λ o. IsOf table (app (symbol_or o) none)) (sym p.1) (of_table precedence p.0.symbol fits.of_table fits.total.0.0 (least_is precedence weights p.0 p.1))
    least_of (Lpo precedence) fits =
        let p = has_least (Lpo precedence) fits in
        subst (λ o. IsOf table (app (or_first o) none)) (sym p.1) (of_table precedence p.0 fits.of_table fits.total.0 (first_is precedence p.0 p.1))
