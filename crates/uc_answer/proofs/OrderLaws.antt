-- An order that fits a signature keeps the laws of an order.
use Rattle.std.proofs.Common.{ℕ, ◌≡◌, ◌==◌, Bool, true, false, List, [], ◌∷◌, map, Some, refl, sym, ap, ◌∙◌, subst, arith, if◌then◌else◌}
use Rattle.std.proofs.lemmas.Bool.{eqb-true, eq-eqb}
use Rattle.uc_term.specs.declared.node.Sym.{Sym}
use Rattle.uc_term.specs.Table.{Table, arity_of}
use Rattle.uc_term.specs.Signatures.{first_constant}
use Rattle.uc_order.specs.Members.{In, in_front, in_rest, IsFirst, first_front, first_rest, AreDistinct}
use Rattle.uc_order.specs.Laws.{Laws}
use Rattle.uc_order.specs.declared.spec.OrderSpec.{OrderSpec}
use Rattle.uc_order.specs.declared.spec.OrderSpec.TheVariants.{Kbo, Lpo}
use Rattle.uc_kbo.specs.Faults.{weighed}
use Rattle.uc_kbo.specs.Weights.{IsTable}
use Rattle.uc_kbo.specs.Laws.{kbo_laws}
use Rattle.uc_kbo.proofs.Tables.{each_in, symbols-weighed, constants-weighed, fit_of}
use Rattle.uc_lpo.specs.Meaning.{laws_of as lpo_laws}
use Rattle.uc_lpo.proofs.Precedences.{least_known, least_bare, least_lowest}
use Rattle.uc_ordering.specs.Fits.{Fits, AreWeights}
use Rattle.uc_ordering.specs.Meaning.{meaning_of, or_first}

behind : {f : Sym} (fs : List Sym) (c : Sym) → In (f ∷ fs) c → (c ≡ f → ⊥) → In fs c
behind fs _ in_front n = absurd (n refl)
behind fs c (in_rest i) n = i

module _ (table : Table) where
  -- where there is a constant, the first one is found
  first_there : (fs : List Sym) (c : Sym) → In fs c → arity_of table c ≡ 0 → IsFirst (λ g. arity_of table g ≡ 0) fs (or_first (first_constant table fs))
  first_there [] c i e = elim i [ ]
  first_there (f ∷ fs) c i e = go (arity_of table f == 0) refl (first_there fs c)
    where
      go : (b : Bool) → (arity_of table f == 0) ≡ b → (In fs c → arity_of table c ≡ 0 → IsFirst (λ g. arity_of table g ≡ 0) fs (or_first (first_constant table fs))) → IsFirst (λ g. arity_of table g ≡ 0) (f ∷ fs) (or_first (if b then Some f else first_constant table fs))
      go true q later = first_front (eqb-true (arity_of table f) 0 q)
      go false q later =
          let bare : arity_of table f ≡ 0 → ⊥ = λ z. absurd (let r : true ≡ false = sym (eq-eqb (arity_of table f) 0 z) ∙ q in cc) in
          first_rest bare (later (behind fs c i (λ same. bare (ap (arity_of table) (sym same) ∙ e))) e)

  weights_table : (signature fs : List Sym) (ws : List ℕ) (w0 : ℕ) → AreWeights table w0 ws fs → AreDistinct fs → (c : Sym) → In fs c → arity_of table c ≡ 0 → IsTable w0 (weighed table fs ws)
  weights_table signature fs ws w0 h d c i e = record {
    some_weight = omega (arith, h.w0_some);
    distinct = subst (λ (gs : List Sym). AreDistinct gs) (sym (symbols-weighed table fs ws h.as_many)) d;
    constant = constants-weighed table fs ws c h.as_many i e;
    fit = fit_of w0 (weighed table fs ws) h.none_bad;
  }

  pub spec_laws : (signature : List Sym) (spec : OrderSpec) → Fits table signature spec → Laws (meaning_of table spec)
  spec_laws signature (Kbo w0 ws fs) f =
      let c = f.constant in
      let total = f.total.0 in
      kbo_laws w0 (weighed table fs ws) (weights_table signature fs ws w0 f.total.1 total.1 c.0 (each_in (In fs) signature c.0 total.2 c.1.0) c.1.1)
  spec_laws signature (Lpo fs) f =
      let c = f.constant in
      let first = first_there fs c.0 (each_in (In fs) signature c.0 f.total.2 c.1.0) c.1.1 in
      let least = or_first (first_constant table fs) in
      lpo_laws fs (map (arity_of table) fs) least (least_known (arity_of table) fs least first (map (arity_of table) fs) refl) (least_bare (arity_of table) fs least first (map (arity_of table) fs) refl) (least_lowest (arity_of table) fs least first (map (arity_of table) fs) refl)
