-- The variables of two terms, sorted and without repetition.
use Rattle.std.proofs.Common.{◌≡◌, ℕ, zero, suc, ◌+◌, ◌<◌, ◌≤◌, take, get_or, append_assoc, length-append, List, [], ◌∷◌, ◌++◌, length, refl, sym, ap, ◌∙◌, subst, arith, ◌⊎◌, inl, inr}
use Rattle.std.specs.List.{Contains, dedup}
use Rattle.std.specs.List.Sorted.{IsSorted, IsPermutation}
use Rattle.std.proofs.lemmas.List.Sorted.{Contains-permutation, IsPermutation-sym}
use Rattle.std.proofs.lemmas.List.Elements.{Contains-append_left, Contains-append_right, Contains-append_cases}
use Rattle.std.proofs.lemmas.List.Kept.{Contains-dedup_nat, Contains-from_dedup}
use Rattle.std.proofs.lemmas.Map.Keys.{IsStrictlyIncreasing-dedup}
use Rattle.std.proofs.Common.{nat_cmp, eqb}
use Rattle.std.proofs.lemmas.List.{take_more}
use Rattle.uc_term.specs.declared.node.Sym.{Sym}
use Rattle.uc_term.specs.declared.node.Node.{Node}
use Rattle.uc_term.specs.declared.node.Node.TheVariants.{Var, App}
use Rattle.uc_term.specs.Flat.{flat}
use Rattle.uc_term.proofs.Terms.{take_of_length-le}
use Rattle.uc_term.proofs.NodeVars.{node_vars, node_vars-append, node_vars-app, node_vars-flat}
use Rattle.uc_term.specs.Tree.{Tree}
use Rattle.uc_term.specs.Variables.{Occurs, variables}
use Rattle.uc_fact.proofs.Occurring.{occurs, among}
use Rattle.uc_order.specs.Members.{In, in_front, in_rest}
use Rattle.uc_order.proofs.Respected.{is_among-In, In-is_among}
use Rattle.uc_ground.specs.Joining.{AreVariables}

contains_in : (xs : List ℕ) (x : ℕ) → Contains xs x → In xs x
contains_in [] x (k, h, e) = absurd (omega arith)
contains_in (y ∷ ys) x (zero, h, e) = subst (λ z. In (y ∷ ys) z) e in_front
contains_in (y ∷ ys) x (suc k, h, e) = in_rest (contains_in ys x (k, omega arith, e))

in_contains : (xs : List ℕ) (x : ℕ) → In xs x → Contains xs x
in_contains [] x i = elim i [ ]
in_contains (_ ∷ xs) x in_front = (0, omega arith, refl)
in_contains (y ∷ xs) x (in_rest i) = let c = in_contains xs x i in (suc c.0, (let h = c.1 in omega arith), c.2)

contains_occurs : (t : Tree) (x : ℕ) → Contains (variables t) x → Occurs x t
contains_occurs t x c = occurs x t (In-is_among x (variables t) (contains_in (variables t) x c))

occurs_contains : (t : Tree) (x : ℕ) → Occurs x t → Contains (variables t) x
occurs_contains t x o = in_contains (variables t) x (is_among-In x (variables t) (among x t o))

-- all variables of both, sorted, and each left once
pub variables_are : (s t : Tree) (raw sorted left : List ℕ) → raw ≡ variables s ++ variables t → IsPermutation raw sorted → IsSorted nat_cmp sorted → left ≡ dedup eqb sorted → AreVariables s t left
variables_are s t raw sorted left r p o d = subst (AreVariables s t) (sym d) (record { rising = IsStrictlyIncreasing-dedup sorted o; each = λ x. (forth x, back x) })
  where
    forth : (x : ℕ) → In (dedup eqb sorted) x → Occurs x s ⊎ Occurs x t
    forth x i =
        let c : Contains raw x = Contains-permutation sorted raw x (IsPermutation-sym raw sorted p) (Contains-from_dedup eqb sorted x (in_contains (dedup eqb sorted) x i)) in
        elim (Contains-append_cases (variables s) (variables t) x (subst (λ xs. Contains xs x) r c)) [ inl a ↦ inl (contains_occurs s x a) | inr b ↦ inr (contains_occurs t x b) ]

    listed : (x : ℕ) → Contains (variables s ++ variables t) x → In (dedup eqb sorted) x
    listed x c = contains_in (dedup eqb sorted) x (Contains-dedup_nat sorted x (Contains-permutation raw sorted x p (subst (λ xs. Contains xs x) (sym r) c)))

    back : (x : ℕ) → Occurs x s ⊎ Occurs x t → In (dedup eqb sorted) x
    back x (inl o) = listed x (Contains-append_left (variables s) (variables t) x (occurs_contains s x o))
    back x (inr o) = listed x (Contains-append_right (variables s) (variables t) x (occurs_contains t x o))

-- one more node
pub more_var : (old before after : List ℕ) (ns : List Node) (i x : ℕ) (d : Node) → before ≡ old ++ node_vars (take i ns) → length before ≤ length old + i → i < length ns → get_or ns i d ≡ Var x → after ≡ before ++ x ∷ [] → (after ≡ old ++ node_vars (take (i + 1) ns)) × (length after ≤ length old + (i + 1))
more_var old before after ns i x d e h k at is = (
  is ∙ ap (λ l. l ++ x ∷ []) e ∙ append_assoc old (node_vars (take i ns)) (x ∷ []) ∙ ap (λ l. old ++ l) (sym (ap node_vars (take_more ns i d k ∙ ap (λ y. take i ns ++ y ∷ []) at) ∙ node_vars-append (take i ns) (Var x ∷ []))),
  (let n : length after ≡ length before + 1 = ap length is ∙ length-append before (x ∷ []) in omega arith),
)

pub more_app : (old before : List ℕ) (ns : List Node) (i : ℕ) (f : Sym) (n : ℕ) (d : Node) → before ≡ old ++ node_vars (take i ns) → length before ≤ length old + i → i < length ns → get_or ns i d ≡ App f n → (before ≡ old ++ node_vars (take (i + 1) ns)) × (length before ≤ length old + (i + 1))
more_app old before ns i f n d e h k at = (e ∙ ap (λ l. old ++ l) (sym (node_vars-app ns i f n d k at)), omega arith)

pub all_vars : (old after : List ℕ) (ns : List Node) (t : Tree) (i : ℕ) → ns ≡ flat t → length ns ≤ i → after ≡ old ++ node_vars (take i ns) → after ≡ old ++ variables t
all_vars old after ns t i is h e = e ∙ ap (λ l. old ++ l) (ap node_vars (take_of_length-le ns i h ∙ is) ∙ node_vars-flat t)
