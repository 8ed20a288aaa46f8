-- The symbols of an order that fits a signature are the signature's, with their arities in the table.
use Rattle.std.proofs.Common.{ℕ, ◌≡◌, ◌==◌, Bool, true, false, List, [], ◌∷◌, length, refl, sym, ap, ◌∙◌, subst, arith, if◌then◌else◌}
use Rattle.std.proofs.lemmas.Bool.{eqb-true, eq-eqb}
use Rattle.uc_term.specs.declared.node.Sym.{Sym}
use Rattle.uc_term.specs.Tree.{Tree, var, app, Trees, none, more}
use Rattle.uc_term.specs.Over.{IsOver, AreOver, IsTerm, IsGround}
use Rattle.uc_term.specs.Table.{Table, arity_of}
use Rattle.uc_order.specs.Members.{In, in_front, in_rest, Each}
use Rattle.uc_order.specs.Laws.{HasSym, IsGroundOf}
use Rattle.uc_order.specs.declared.spec.OrderSpec.{OrderSpec}
use Rattle.uc_order.specs.declared.spec.OrderSpec.TheVariants.{Kbo, Lpo}
use Rattle.uc_kbo.specs.Faults.{weighed}
use Rattle.uc_kbo.specs.Weights.{arity_in}
use Rattle.uc_kbo.proofs.Tables.{each_in, symbols-weighed}
use Rattle.uc_lpo.specs.Places.{arity_at}
use Rattle.uc_ordering.specs.Fits.{Fits}
use Rattle.uc_ordering.specs.Meaning.{meaning_of}

-- what a term over one signature is over another
module _ (P Q : Sym → Type 0) (a b : Sym → ℕ) (k : (f : Sym) → P f → Q f × (a f ≡ b f)) where
  -- with other variables too
  module _ (K L : ℕ → Type 0) (v : (x : ℕ) → K x → L x) where
    mutual
      pub over_from : (t : Tree) → IsOver P a K t → IsOver Q b L t
      over_from (var x) h = v x h
      over_from (app f ts) h = let p = k f h.0 in (p.0, h.1 ∙ p.1, overs_from ts h.2)

      overs_from : (ts : Trees) → AreOver P a K ts → AreOver Q b L ts
      overs_from none h = tt
      overs_from (more t ts) h = (over_from t h.0, overs_from ts h.1)

  pub term_from : (t : Tree) → IsTerm P a t → IsTerm Q b t
  term_from = over_from (λ _. Unit {0}) (λ _. Unit {0}) (λ x h. h)

module _ (table : Table) where
  later_in : {g : Sym} (fs : List Sym) (f : Sym) → In (g ∷ fs) f → ((g.0 == f.0) ≡ false) → In fs f
  later_in fs f (in_rest i) e = i
  later_in {g} fs _ in_front e = absurd (let bad : true ≡ false = sym (eq-eqb g.0 g.0 refl) ∙ e in cc)

  weighed_arity : (fs : List Sym) (ws : List ℕ) (f : Sym) → length ws ≡ length fs → In fs f → arity_in (weighed table fs ws) f ≡ arity_of table f
  weighed_arity [] ws f h i = elim i [ ]
  weighed_arity (g ∷ fs) [] f h i = absurd (omega (arith, h))
  weighed_arity (g ∷ fs) (w ∷ ws) f h i = go (g.0 == f.0) refl (weighed_arity fs ws f (omega (arith, h)))
    where
      go : (b : Bool) → (g.0 == f.0) ≡ b → (In fs f → arity_in (weighed table fs ws) f ≡ arity_of table f) → (if b then arity_of table g else arity_in (weighed table fs ws) f) ≡ arity_of table f
      go true e later = ap (λ (n : ℕ). arity_of table (record { 0 = n })) (eqb-true g.0 f.0 e)
      go false e later = later (later_in fs f i e)

  module _ (signature : List Sym) where
    abbrev IsAlike : OrderSpec → Sym → Type 0
    IsAlike spec f = (meaning_of table spec).arity f ≡ arity_of table f

    pub known_symbol : (spec : OrderSpec) → Fits table signature spec → (f : Sym) → HasSym (meaning_of table spec) f → In signature f × IsAlike spec f
    known_symbol (Kbo w0 ws fs) fits f i =
        let many = fits.total.1.as_many in
        let here : In fs f = subst (λ (gs : List Sym). In gs f) (symbols-weighed table fs ws many) i in
        (each_in (In signature) fs f fits.total.0.0 here, weighed_arity fs ws f many here)
    known_symbol (Lpo fs) fits f i = (each_in (In signature) fs f fits.total.0 i, arity_at (arity_of table) fs f i)

    pub symbol_known : (spec : OrderSpec) → Fits table signature spec → (f : Sym) → In signature f → HasSym (meaning_of table spec) f × (arity_of table f ≡ (meaning_of table spec).arity f)
    symbol_known (Kbo w0 ws fs) fits f i =
        let many = fits.total.1.as_many in
        let here : In fs f = each_in (In fs) signature f fits.total.0.2 i in
        (subst (λ (gs : List Sym). In gs f) (sym (symbols-weighed table fs ws many)) here, sym (weighed_arity fs ws f many here))
    symbol_known (Lpo fs) fits f i = let here : In fs f = each_in (In fs) signature f fits.total.2 i in (here, sym (arity_at (arity_of table) fs f here))

    -- a term over the order's signature is one over the table, whose symbols are so where those of the signature are
    pub table_term : (spec : OrderSpec) → Fits table signature spec → (P : Sym → Type 0) → Each P signature → (t : Tree) → IsTerm (HasSym (meaning_of table spec)) (meaning_of table spec).arity t → IsTerm P (arity_of table) t
    table_term spec fits P each t h = term_from (HasSym (meaning_of table spec)) P (meaning_of table spec).arity (arity_of table) (λ f i. (let p = known_symbol spec fits f i in (each_in P signature f each p.0, p.1))) t h

    -- and the other way round
    pub order_term : (spec : OrderSpec) → Fits table signature spec → (t : Tree) → IsTerm (In signature) (arity_of table) t → IsTerm (HasSym (meaning_of table spec)) (meaning_of table spec).arity t
    order_term spec fits t h = term_from (In signature) (HasSym (meaning_of table spec)) (arity_of table) (meaning_of table spec).arity (symbol_known spec fits) t h

    -- so it is with ground terms
    pub table_ground : (spec : OrderSpec) → Fits table signature spec → (P : Sym → Type 0) → Each P signature → (t : Tree) → IsGroundOf (meaning_of table spec) t → IsTerm P (arity_of table) t
    table_ground spec fits P each = over_from (HasSym (meaning_of table spec)) P (meaning_of table spec).arity (arity_of table) (λ f i. (let p = known_symbol spec fits f i in (each_in P signature f each p.0, p.1))) (λ _. ⊥) (λ _. Unit {0}) (λ x h. tt)

    pub order_ground : (spec : OrderSpec) → Fits table signature spec → (t : Tree) → IsGround (In signature) (arity_of table) t → IsGroundOf (meaning_of table spec) t
    order_ground spec fits = over_from (In signature) (HasSym (meaning_of table spec)) (arity_of table) (meaning_of table spec).arity (symbol_known spec fits) (λ _. ⊥) (λ _. ⊥) (λ x h. h)
