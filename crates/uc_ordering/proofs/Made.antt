-- Of a description that fits, an order of either kind is made, or memory is wanting.
use Rattle.std.proofs.Common.{◌≡◌, ℕ, List, [], ◌∷◌, Result, Ok, Err, IfOk, IfErr, MatchResult, refl, sym, subst, inl, inr}
use Rattle.std.specs.declared.alloc.AllocError.{AllocError}
use Rattle.uc_term.specs.declared.node.Sym.{Sym}
use Rattle.uc_term.specs.Table.{Table}
use Rattle.uc_order.specs.Members.{In, Each, IsFirst, first_front, first_rest, IsTwice, twice_front, twice_rest, AreDistinct}
use Rattle.uc_order.specs.Precedence.{IsTotalOn, IsPrecedenceFault}
use Rattle.uc_order.specs.declared.spec.OrderSpec.{OrderSpec}
use Rattle.uc_order.specs.declared.spec.OrderSpec.TheVariants as spec
use Rattle.uc_order.specs.declared.spec.OrderFault.{OrderFault}
use Rattle.uc_order.specs.declared.spec.OrderFault.TheVariants.{BadWeight, NotTotal, UnknownSymbol, NoMemory}
use Rattle.uc_kbo.specs.Faults.{weighed, FirstBad, bad_front, bad_rest, NoneBad, IsKboFault}
use Rattle.uc_kbo.specs.declared.weights.Weighed.{Weighed}
use Rattle.uc_kbo.specs.declared.kbo.Kbo.{Kbo as KboOrder}
use Rattle.uc_lpo.specs.declared.path_order.Lpo.{Lpo as LpoOrder}
use Rattle.uc_lpo.specs.Orders.{IsOrderOf as IsLpoOf}
use Rattle.uc_ordering.specs.declared.chosen.Chosen.{Chosen}
use Rattle.uc_ordering.specs.declared.chosen.Chosen.TheVariants.{Kbo, Lpo}
use Rattle.uc_ordering.specs.Meaning.{meaning_of, SayAlike}
use Rattle.uc_ordering.specs.Chosen.{chosen_meaning, IsOrderOf, meaning_is, alike}

first_is_so : {A : Type 0} (P : A → Type 0) (xs : List A) (x : A) → IsFirst P xs x → P x
first_is_so P [] x i = elim i [ ]
first_is_so P (x ∷ xs) _ (first_front p) = p
first_is_so P (y ∷ xs) x (first_rest n i) = first_is_so P xs x i

first_not_each : {A : Type 0} (Q : A → Type 0) (xs : List A) (x : A) → IsFirst (λ y. Q y → ⊥) xs x → Each Q xs → ⊥
first_not_each Q [] x i e = elim i [ ]
first_not_each Q (x ∷ xs) _ (first_front p) e = p e.0
first_not_each Q (y ∷ xs) x (first_rest n i) e = first_not_each Q xs x i e.1

twice_not_distinct : {A : Type 0} (xs : List A) (x : A) → IsTwice xs x → AreDistinct xs → ⊥
twice_not_distinct [] x i a = elim i [ ]
twice_not_distinct (x ∷ xs) _ (twice_front i) a = a.0 i
twice_not_distinct (y ∷ xs) x (twice_rest t) a = twice_not_distinct xs x t a.1

first_not_none : (w0 : ℕ) (es : List Weighed) (e : Weighed) → FirstBad w0 es e → NoneBad w0 es → ⊥
first_not_none w0 [] e i n = elim i [ ]
first_not_none w0 (e ∷ es) _ (bad_front b) n = n.0 b
first_not_none w0 (d ∷ es) e (bad_rest b f) n = first_not_none w0 es e f n.1

total_no_fault : (signature precedence : List Sym) (fault : OrderFault) → IsTotalOn signature precedence → IsPrecedenceFault signature precedence fault → fault ≡ NoMemory
total_no_fault signature precedence (UnknownSymbol f) t i = absurd (first_not_each (In signature) precedence f i t.0)
total_no_fault signature precedence (NotTotal f) t (k, inl i) = absurd (twice_not_distinct precedence f (first_is_so (IsTwice precedence) precedence f i) t.1)
total_no_fault signature precedence (NotTotal f) t (k, inr i) = absurd (first_not_each (In precedence) signature f i.1 t.2)
total_no_fault signature precedence (BadWeight f n) t i = absurd i
total_no_fault signature precedence NoMemory t i = refl

good_no_fault : (table : Table) (signature precedence : List Sym) (w0 : ℕ) (weights : List ℕ) (fault : OrderFault) → IsTotalOn signature precedence → NoneBad w0 (weighed table precedence weights) → IsKboFault table signature w0 weights precedence fault → fault ≡ NoMemory
good_no_fault table signature precedence w0 weights (UnknownSymbol f) t n i = total_no_fault signature precedence (UnknownSymbol f) t i
good_no_fault table signature precedence w0 weights (NotTotal f) t n i = total_no_fault signature precedence (NotTotal f) t i
good_no_fault table signature precedence w0 weights (BadWeight f w) t n i = absurd (first_not_none w0 (weighed table precedence weights) i.1.0 i.1.1.0 n)
good_no_fault table signature precedence w0 weights NoMemory t n i = refl

pub kbo_memory : (table : Table) (signature precedence : List Sym) (w0 : ℕ) (weights : List ℕ) (r : Result KboOrder OrderFault) → IsTotalOn signature precedence → NoneBad w0 (weighed table precedence weights) → IfErr r (IsKboFault table signature w0 weights precedence) → IfErr r (λ fault. fault ≡ NoMemory)
kbo_memory table signature precedence w0 weights (Ok k) t n i = tt
kbo_memory table signature precedence w0 weights (Err fault) t n i = good_no_fault table signature precedence w0 weights fault t n i

pub lpo_memory : (signature precedence : List Sym) (r : Result LpoOrder OrderFault) → IsTotalOn signature precedence → IfErr r (IsPrecedenceFault signature precedence) → IfErr r (λ fault. fault ≡ NoMemory)
lpo_memory signature precedence (Ok k) t i = tt
lpo_memory signature precedence (Err fault) t i = total_no_fault signature precedence fault t i

says : (table : Table) (description : OrderSpec) (order : Chosen) → IsOrderOf table description order → SayAlike (chosen_meaning order) (meaning_of table description)
says table description order h = alike (chosen_meaning order) (meaning_of table description) (meaning_is table description order h)

pub kbo_says : (table : Table) (w0 : ℕ) (weights : List ℕ) (precedence : List Sym) (r : Result KboOrder OrderFault) (s : Result Chosen AllocError) → IfOk r (λ k. (k.weights.w0 ≡ w0) × (k.entries.items ≡ weighed table precedence weights)) → IfOk s (λ order. MatchResult r (λ k. order ≡ Kbo k) (λ _. ⊥)) → IfOk s (λ order. SayAlike (chosen_meaning order) (meaning_of table (spec.Kbo w0 weights precedence)))
kbo_says table w0 weights precedence r (Err e) h q = tt
kbo_says table w0 weights precedence (Err f) (Ok order) h q = absurd q
kbo_says table w0 weights precedence (Ok k) (Ok order) h q = says table (spec.Kbo w0 weights precedence) order (subst (IsOrderOf table (spec.Kbo w0 weights precedence)) (sym q) h)

pub lpo_says : (table : Table) (precedence : List Sym) (r : Result LpoOrder OrderFault) (s : Result Chosen AllocError) → IfOk r (IsLpoOf table precedence) → IfOk s (λ order. MatchResult r (λ o. order ≡ Lpo o) (λ _. ⊥)) → IfOk s (λ order. SayAlike (chosen_meaning order) (meaning_of table (spec.Lpo precedence)))
lpo_says table precedence r (Err e) h q = tt
lpo_says table precedence (Err f) (Ok order) h q = absurd q
lpo_says table precedence (Ok o) (Ok order) h q = says table (spec.Lpo precedence) order (subst (IsOrderOf table (spec.Lpo precedence)) (sym q) h)
