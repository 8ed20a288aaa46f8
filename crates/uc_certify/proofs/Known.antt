-- Sets of symbols, and terms of known symbols and variables.
use Rattle.std.proofs.Common.{◌≡◌, ℕ, ◌+◌, ◌<◌, ◌≤◌, ◌⊎◌, inl, inr, Bool, true, false, ◌↔◌, IsTrue, List, [], ◌∷◌, ◌++◌, length, take, get_or, if◌then◌else◌, refl, sym, ap, ◌∙◌, subst, arith}
use Rattle.std.specs.Prelude.{nat_eq, nat_lt}
use Rattle.std.specs.List.{list_any}
use Rattle.std.proofs.lemmas.Bool.{cases_Bool, ltb-true, lt-ltb}
use Rattle.std.proofs.lemmas.List.{take_more}
use Rattle.uc_term.specs.declared.node.Sym.{Sym}
use Rattle.uc_term.specs.declared.node.Node.{Node}
use Rattle.uc_term.specs.Tree.{Tree, var, app, Trees, none, more}
use Rattle.uc_term.specs.Flat.{flat, flat_all}
use Rattle.uc_term.specs.Over.{IsOver, AreOver}
use Rattle.uc_term.specs.Variables.{is_among}
use Rattle.uc_term.proofs.NodeVars.{list_any-among}
use Rattle.uc_order.specs.Members.{Each, In}
use Rattle.uc_order.specs.Laws.{Meaning, HasSym}
use Rattle.uc_order.specs.VarOrders.{Classes, Among, among_front, among_rest, class_of}
use Rattle.uc_order.proofs.Respected.{is_among-In, In-is_among, later}
use Rattle.uc_certificate.specs.Arities.{KeepsArities, AllKeepArities}
use Rattle.uc_certify.specs.Certifying.{AreSameSymbols}
use Rattle.uc_certify.specs.Knowing.{HasNumber, IsSetOf, IsKnownNode}
use Rattle.uc_certify.proofs.Lists.{taken_all, in_left, in_last, in_split}

-- SETS

has_in : (numbers : List ℕ) (f : Sym) → HasNumber numbers f → In numbers f.0
has_in numbers f h = is_among-In f.0 numbers (sym (list_any-among f.0 numbers) ∙ h)

in_has : (numbers : List ℕ) (f : Sym) → In numbers f.0 → HasNumber numbers f
in_has numbers f i = list_any-among f.0 numbers ∙ In-is_among f.0 numbers i

same_sym : (f g : Sym) → f.0 ≡ g.0 → f ≡ g
same_sym f g e = ap (λ (n : ℕ). let s : Sym = record { 0 = n } in s) e

-- the numbers with one more
abbrev with_number : List ℕ → ℕ → List ℕ
with_number numbers x = if list_any (nat_eq x) numbers then numbers else numbers ++ x ∷ []

with_split : (numbers : List ℕ) (x y : ℕ) → In (with_number numbers x) y → In numbers y ⊎ (x ≡ y)
with_split numbers x y = go (list_any (nat_eq x) numbers)
  where
    go : (b : Bool) → In (if b then numbers else numbers ++ x ∷ []) y → In numbers y ⊎ (x ≡ y)
    go true i = inl i
    go false i = in_split numbers x y i

with_old : (numbers : List ℕ) (x y : ℕ) → In numbers y → In (with_number numbers x) y
with_old numbers x y i = go (list_any (nat_eq x) numbers)
  where
    go : (b : Bool) → In (if b then numbers else numbers ++ x ∷ []) y
    go true = i
    go false = in_left (x ∷ []) i

with_itself : (numbers : List ℕ) (x : ℕ) → In (with_number numbers x) x
with_itself numbers x = go (list_any (nat_eq x) numbers) refl
  where
    go : (b : Bool) → list_any (nat_eq x) numbers ≡ b → In (if b then numbers else numbers ++ x ∷ []) x
    go true e = is_among-In x numbers (sym (list_any-among x numbers) ∙ e)
    go false e = in_last numbers x

pub set_none : (fs : List Sym) → IsSetOf [] (take 0 fs)
set_none fs f = (λ h. absurd cc, λ i. elim i [ ])

pub set_more : (fs : List Sym) (i : ℕ) (d : Sym) (old new : List ℕ) → i < length fs → new ≡ with_number old (get_or fs i d).0 → IsSetOf old (take i fs) → IsSetOf new (take (i + 1) fs)
set_more fs i d old new h is set g = (λ k. forth (with_split old (get_or fs i d).0 g.0 (subst (λ l. In l g.0) is (has_in new g k))), λ k. in_has new g (subst (λ l. In l g.0) (sym is) (back (in_split (take i fs) (get_or fs i d) g (subst (λ l. In l g) taken k)))))
  where
    taken : take (i + 1) fs ≡ take i fs ++ get_or fs i d ∷ []
    taken = take_more fs i d h

    forth : In old g.0 ⊎ ((get_or fs i d).0 ≡ g.0) → In (take (i + 1) fs) g
    forth (inl j) = subst (λ l. In l g) (sym taken) (in_left (get_or fs i d ∷ []) ((set g).0 (in_has old g j)))
    forth (inr q) = subst (λ l. In l g) (sym taken) (subst (λ z. In (take i fs ++ get_or fs i d ∷ []) z) (same_sym (get_or fs i d) g q) (in_last (take i fs) (get_or fs i d)))

    back : In (take i fs) g ⊎ (get_or fs i d ≡ g) → In (with_number old (get_or fs i d).0) g.0
    back (inl j) = with_old old (get_or fs i d).0 g.0 (has_in old g ((set g).1 j))
    back (inr q) = subst (λ (z : Sym). In (with_number old (get_or fs i d).0) z.0) q (with_itself old (get_or fs i d).0)

pub set_end : (fs : List Sym) (i : ℕ) (numbers : List ℕ) → length fs ≤ i → IsSetOf numbers (take i fs) → IsSetOf numbers fs
set_end fs i numbers h set = subst (IsSetOf numbers) (taken_all fs i h) set

-- a set of the symbols of each list
pub same_symbols : (fs gs : List Sym) (ns ms : List ℕ) → IsSetOf ns fs → IsSetOf ms gs → ((f : Sym) → In gs f → HasNumber ns f) → ((f : Sym) → In fs f → HasNumber ms f) → AreSameSymbols fs gs
same_symbols fs gs ns ms a b h k f = (λ i. (b f).0 (k f i), λ i. (a f).0 (h f i))

pub into_set : (fs gs : List Sym) (ns : List ℕ) → IsSetOf ns fs → AreSameSymbols fs gs → (f : Sym) → In gs f → HasNumber ns f
into_set fs gs ns a same f i = (a f).1 ((same f).1 i)

pub from_set : (fs gs : List Sym) (ms : List ℕ) → IsSetOf ms gs → AreSameSymbols fs gs → (f : Sym) → In fs f → HasNumber ms f
from_set fs gs ms b same f i = (b f).1 ((same f).0 i)

-- CLASSES

pub among_below : (cs : Classes) (x : ℕ) → Among cs x → class_of cs x < length cs
among_below [] x a = elim a [ ]
among_below (c ∷ cs) x a = elim (cases_Bool (is_among x c)) as (λ _. class_of (c ∷ cs) x < length (c ∷ cs)) [
  | inl b ↦ rw b (omega arith)
  | inr b ↦ (let k = among_below cs x (later x c cs b a) in rw b (omega arith))
]

pub below_among : (cs : Classes) (x : ℕ) → class_of cs x < length cs → Among cs x
below_among [] x h = absurd (omega arith)
below_among (c ∷ cs) x h = elim (cases_Bool (is_among x c)) as (λ _. Among (c ∷ cs) x) [
  | inl b ↦ among_front (is_among-In x c b)
  | inr b ↦ (let k : class_of cs x + 1 < length (c ∷ cs) = rw b at h in among_rest (below_among cs x (omega arith)))
]

-- the test of the number of the class
pub tested_among : (cs : Classes) (x a b : ℕ) → a ≡ class_of cs x → b ≡ length cs → IsTrue (nat_lt a b) ↔ Among cs x
tested_among cs x a b e f = (λ h. below_among cs x (let l : a < b = ltb-true a b h in omega (arith, l, e, f)), λ m. lt-ltb a b (let l = among_below cs x m in omega (arith, l, e, f)))

-- TERMS

module _ (m : Meaning) (Known : ℕ → Type 0) where
  abbrev NodeIs : Node → Type 0
  NodeIs = IsKnownNode m.symbols Known

  each_split : (xs ys : List Node) → Each NodeIs (xs ++ ys) → Each NodeIs xs × Each NodeIs ys
  each_split [] ys h = (tt, h)
  each_split (x ∷ xs) ys h = let r = each_split xs ys h.1 in ((h.0, r.0), r.1)

  each_join : (xs ys : List Node) → Each NodeIs xs → Each NodeIs ys → Each NodeIs (xs ++ ys)
  each_join [] ys a b = b
  each_join (x ∷ xs) ys a b = (a.0, each_join xs ys a.1 b)

  mutual
    pub over_of : (t : Tree) → KeepsArities m t → Each NodeIs (flat t) → IsOver (HasSym m) m.arity Known t
    over_of (var x) k h = h.0
    over_of (app f ts) k h = (h.0, k.0 h.0, all_over_of ts k.1 h.1)

    all_over_of : (ts : Trees) → AllKeepArities m ts → Each NodeIs (flat_all ts) → AreOver (HasSym m) m.arity Known ts
    all_over_of none k h = tt
    all_over_of (more t ts) k h = let s = each_split (flat t) (flat_all ts) h in (over_of t k.0 s.0, all_over_of ts k.1 s.1)

  mutual
    pub nodes_of : (t : Tree) → IsOver (HasSym m) m.arity Known t → Each NodeIs (flat t)
    nodes_of (var x) o = (o, tt)
    nodes_of (app f ts) o = (o.0, all_nodes_of ts o.2)

    all_nodes_of : (ts : Trees) → AreOver (HasSym m) m.arity Known ts → Each NodeIs (flat_all ts)
    all_nodes_of none o = tt
    all_nodes_of (more t ts) o = each_join (flat t) (flat_all ts) (nodes_of t o.0) (all_nodes_of ts o.1)
