-- What a value of an order of either kind says, that it keeps the laws of an order, and which description it stands for.
use Rattle.std.specs.Prelude.{◌≡◌, ◌==◌, Bool, true, false, List, [], ◌∷◌, map, Some, if◌then◌else◌, refl}
use Rattle.std.proofs.Common.{ap, sym, subst, ◌∙◌}
use Rattle.std.proofs.lemmas.Bool.{eqb-true, eq-eqb}
use Rattle.uc_term.specs.declared.node.Sym.{Sym}
use Rattle.uc_term.specs.Table.{Table, arity_of}
use Rattle.uc_term.specs.Signatures.{first_constant}
use Rattle.uc_order.specs.Members.{IsFirst, first_front, first_rest}
use Rattle.uc_order.specs.declared.spec.OrderSpec.{OrderSpec}
use Rattle.uc_order.specs.declared.spec.OrderSpec.TheVariants as spec
use Rattle.uc_kbo.specs.Faults.{weighed}
use Rattle.uc_lpo.specs.Orders.{IsOrderOf as IsLpoOf}
use Rattle.uc_ordering.specs.Meaning.{meaning_of, or_first, SayAlike}
use Rattle.uc_order.specs.Laws.{Meaning, Laws}
use Rattle.uc_kbo.specs.Weights.{kbo_meaning}
use Rattle.uc_kbo.specs.Laws.{kbo_laws}
use Rattle.uc_lpo.specs.Meaning.{meaning_of as lpo_meaning, laws_of as lpo_laws}
use Rattle.uc_ordering.specs.declared.chosen.Chosen.{Chosen}
use Rattle.uc_ordering.specs.declared.chosen.Chosen.TheVariants.{Kbo, Lpo}

abbrev pub chosen_meaning : Chosen → Meaning
chosen_meaning (Kbo k) = kbo_meaning k.weights.w0 k.entries.items
chosen_meaning (Lpo o) = lpo_meaning o.precedence.items o.arities.items o.least

pub chosen_laws : (order : Chosen) → Laws (chosen_meaning order)
chosen_laws (Kbo k) = kbo_laws k.weights.w0 k.entries.items k.valid
chosen_laws (Lpo o) = lpo_laws o.precedence.items o.arities.items o.least o.known o.bare o.lowest

-- the value is made of what the description has
abbrev pub IsOrderOf : Table → OrderSpec → Chosen → Type 0
IsOrderOf table (spec.Kbo w0 weights precedence) (Kbo k) = (k.weights.w0 ≡ w0) × (k.entries.items ≡ weighed table precedence weights)
IsOrderOf table (spec.Kbo w0 weights precedence) (Lpo o) = ⊥
IsOrderOf table (spec.Lpo precedence) (Kbo k) = ⊥
IsOrderOf table (spec.Lpo precedence) (Lpo o) = IsLpoOf table precedence o

first_is : (table : Table) (fs : List Sym) (c : Sym) → IsFirst (λ f. arity_of table f ≡ 0) fs c → first_constant table fs ≡ Some c
first_is table [] c i = elim i [ ]
first_is table (c ∷ fs) _ (first_front z) = ap (λ b. if b then Some c else first_constant table fs) (eq-eqb (arity_of table c) 0 z)
first_is table (g ∷ fs) c (first_rest n i) = go (arity_of table g == 0) refl (first_is table fs c i)
  where
    go : (b : Bool) → (arity_of table g == 0) ≡ b → first_constant table fs ≡ Some c → (if b then Some g else first_constant table fs) ≡ Some c
    go true e later = absurd (n (eqb-true (arity_of table g) 0 e))
    go false e later = later

-- then it says what the description says
pub meaning_is : (table : Table) (description : OrderSpec) (order : Chosen) → IsOrderOf table description order → chosen_meaning order ≡ meaning_of table description
meaning_is table (spec.Kbo w0 weights precedence) (Kbo k) h = ap (λ n. kbo_meaning n k.entries.items) h.0 ∙ ap (kbo_meaning w0) h.1
meaning_is table (spec.Kbo w0 weights precedence) (Lpo o) h = absurd h
meaning_is table (spec.Lpo precedence) (Kbo k) h = absurd h
meaning_is table (spec.Lpo precedence) (Lpo o) h =
    ap (λ fs. lpo_meaning fs o.arities.items o.least) h.precedence_is ∙ ap (λ ns. lpo_meaning precedence ns o.least) h.arities_are ∙ ap (lpo_meaning precedence (map (arity_of table) precedence)) (sym (ap or_first (first_is table precedence o.least h.least_is)))

-- two orders that are the same say the same
pub alike : (m n : Meaning) → m ≡ n → SayAlike m n
alike m n e = subst (SayAlike m) e (record { symbols = refl; arity = λ f. refl; greater = λ s t. (λ g. g, λ g. g); under = λ cs s t. (λ u. u, λ u. u); least = refl })
