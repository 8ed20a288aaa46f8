-- Constants that occur nowhere else stand for variables.
use Rattle.std.proofs.Common.{◌≡◌, ◌==◌, ℕ, zero, suc, List, [], ◌∷◌, Bool, true, false, Option, Some, None, slice_get, refl, sym, ap, ap₂, ◌∙◌, subst}
use Rattle.std.specs.Prelude.{if◌then◌else◌}
use Rattle.std.specs.Option.{option_map}
use Rattle.std.proofs.lemmas.Bool.{eqb-true, eq-eqb}
use Rattle.uc_term.specs.declared.node.Sym.{Sym}
use Rattle.uc_term.specs.declared.equation.Equation.{Equation}
use Rattle.uc_term.specs.declared.equation.Side.{Side}
use Rattle.uc_term.specs.declared.equation.Side.TheVariants.{Left, Right}
use Rattle.uc_term.specs.Tree.{Tree, var, app, Trees, none, more, apply, apply_all}
use Rattle.uc_term.specs.Within.{Within, at_root, under, WithinOne, at_first, at_later, stay, go_by}
use Rattle.uc_term.specs.Equations.{Sides}
use Rattle.uc_term.specs.Conversion.{Turn, Conv}
use Rattle.uc_term.proofs.Conversion.{Conv-turn, Conv-trans, Conv-apply, AllConv, no_conv, one_conv, Conv-app}
use Rattle.uc_fof.specs.Constants.{place_in, AreApart, constant_or_variable, constant_for, LacksThem, AllLackThem, AreForeign}

placed_later : (d : Sym) (cs : List Sym) (n : ℕ) (c : Sym) → AreApart (d ∷ cs) → place_in cs c ≡ Some n → place_in (d ∷ cs) c ≡ Some (suc n)
placed_later d cs n c apart later = go (d.0 == c.0) refl
  where
    go : (b : Bool) → (d.0 == c.0) ≡ b → (if b then Some 0 else option_map (λ k. suc k) (place_in cs c)) ≡ Some (suc n)
    go false e = ap (option_map (λ k. suc k)) later
    go true e =
        let numbers : d.0 ≡ c.0 = eqb-true d.0 c.0 e in
        let same : d ≡ c = ap (λ (i : ℕ). let s : Sym = record { 0 = i } in s) numbers in
        let never : place_in cs c ≡ None = subst (λ s. place_in cs s ≡ None) same apart.0 in
        absurd (let bad : None ≡ Some n = sym never ∙ later in cc)

placed : (cs : List Sym) (n : ℕ) (c : Sym) → AreApart cs → slice_get cs n ≡ Some c → place_in cs c ≡ Some n
placed [] n c apart at = absurd (cc)
placed (d ∷ cs) zero c apart at =
    let same : d ≡ c = cc in
    let equal : (d.0 == c.0) ≡ true = eq-eqb d.0 c.0 (ap (λ (s : Sym). s.0) same) in
    rw equal refl
placed (d ∷ cs) (suc n) c apart at = placed_later d cs n c apart (placed cs n c apart.1 at)

module _ (cs : List Sym) where
  abbrev put_back : Option ℕ → Sym → Trees → Tree
  put_back (Some n) f ts = var n
  put_back None f ts = app f ts

  -- each of the constants turned into its variable
  abbrev mutual
    back : Tree → Tree
    back (var x) = var x
    back (app f ts) = put_back (place_in cs f) f (back_all ts)

    back_all : Trees → Trees
    back_all none = none
    back_all (more t ts) = more (back t) (back_all ts)

  -- it goes through an instance of a term that has none of them
  mutual
    back_apply : (σ : ℕ → Tree) (t : Tree) → LacksThem cs t → back (apply σ t) ≡ apply (λ x. back (σ x)) t
    back_apply σ (var x) lacks = refl
    back_apply σ (app f ts) lacks = ap (λ p. put_back p f (back_all (apply_all σ ts))) lacks.0 ∙ ap (app f) (back_apply_all σ ts lacks.1)

    back_apply_all : (σ : ℕ → Tree) (ts : Trees) → AllLackThem cs ts → back_all (apply_all σ ts) ≡ apply_all (λ x. back (σ x)) ts
    back_apply_all σ none lacks = refl
    back_apply_all σ (more t ts) lacks = ap₂ more (back_apply σ t lacks.0) (back_apply_all σ ts lacks.1)

  module _ (apart : AreApart cs) where
    back_constant : (n : ℕ) (o : Option Sym) → slice_get cs n ≡ o → back (constant_or_variable n o) ≡ var n
    back_constant n None e = refl
    back_constant n (Some c) e = ap (λ p. put_back p c none) (placed cs n c apart e)

    mutual
      restored : (t : Tree) → LacksThem cs t → back (apply (constant_for cs) t) ≡ t
      restored (var x) lacks = back_constant x (slice_get cs x) refl
      restored (app f ts) lacks = ap (λ p. put_back p f (back_all (apply_all (constant_for cs) ts))) lacks.0 ∙ ap (app f) (all_restored ts lacks.1)

      all_restored : (ts : Trees) → AllLackThem cs ts → back_all (apply_all (constant_for cs) ts) ≡ ts
      all_restored none lacks = refl
      all_restored (more t ts) lacks = ap₂ more (restored t lacks.0) (all_restored ts lacks.1)

  module _ (es : List Equation) (foreign : AreForeign cs es) where
    sides_lack : (i : ℕ) (a : Side) (l r : Tree) → Sides es i a l r → LacksThem cs l × LacksThem cs r
    sides_lack i Left l r s = let h = foreign i s.equation s.equation_is in (subst (LacksThem cs) (sym s.left_is) h.0, subst (LacksThem cs) (sym s.right_is) h.1)
    sides_lack i Right l r s = let h = foreign i s.equation s.equation_is in (subst (LacksThem cs) (sym s.left_is) h.1, subst (LacksThem cs) (sym s.right_is) h.0)

    turn_back : (u v : Tree) → Turn es u v → Turn es (back u) (back v)
    turn_back u v t =
        let lack = sides_lack t.number t.side t.l t.r t.sides in
        record { number = t.number; side = t.side; l = t.l; r = t.r; sides = t.sides; σ = λ x. back (t.σ x); u_is = ap back t.u_is ∙ back_apply t.σ t.l lack.0; v_is = ap back t.v_is ∙ back_apply t.σ t.r lack.1 }

    all_stay : (ts : Trees) → AllConv es ts ts
    all_stay none = no_conv
    all_stay (more t ts) = one_conv stay (all_stay ts)

    head_back : (o : Option ℕ) (f : Sym) (us vs : Trees) → AllConv es us vs → Conv es (put_back o f us) (put_back o f vs)
    head_back (Some n) f us vs c = stay
    head_back None f us vs c = Conv-app es f c

    mutual
      step_back : {u v : Tree} → Within (Turn es) u v → Conv es (back u) (back v)
      step_back (at_root {u = u} {v = v} t) = Conv-turn es (back u) (back v) (turn_back u v t)
      step_back (under {f = f} {us = us} {vs = vs} o) = head_back (place_in cs f) f (back_all us) (back_all vs) (one_back o)

      one_back : {us vs : Trees} → WithinOne (Turn es) us vs → AllConv es (back_all us) (back_all vs)
      one_back (at_first {ts = ts} s) = one_conv (step_back s) (all_stay (back_all ts))
      one_back (at_later {t = t} o) = one_conv stay (one_back o)

    conv_back : {u v : Tree} → Conv es u v → Conv es (back u) (back v)
    conv_back stay = stay
    conv_back (go_by s c) = Conv-trans es (step_back s) (conv_back c)

    pub by_constants : (s t : Tree) → Conv es s t → Conv es (apply (constant_for cs) s) (apply (constant_for cs) t)
    by_constants s t c = Conv-apply es (constant_for cs) c

    pub from_constants : AreApart cs → (s t : Tree) → LacksThem cs s → LacksThem cs t → Conv es (apply (constant_for cs) s) (apply (constant_for cs) t) → Conv es s t
    from_constants apart s t l m c = subst (λ u. Conv es u t) (restored apart s l) (subst (λ v. Conv es (back (apply (constant_for cs) s)) v) (restored apart t m) (conv_back c))
