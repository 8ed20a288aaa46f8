-- A position names one place.
use Rattle.std.proofs.Common.{◌≡◌, ℕ, ◌+◌, ◌<◌, ◌==◌, true, ◌↔◌, IsTrue, Some, None, slice_get, List, length, take, drop, get_or, refl, sym, ap, ◌∙◌, subst, arith, ◌⊎◌, inl, inr}
use Rattle.std.proofs.lemmas.Grind.{common_steps}
use Rattle.std.proofs.lemmas.Bool.{cases_Bool, eqb-true}
use Rattle.uc_term.specs.declared.equation.Equation.{Equation}
use Rattle.uc_term.specs.Equations.{side_of}
use Rattle.uc_term.specs.Path.{at_position}
use Rattle.uc_fact.specs.declared.fact.Overlap.{Overlap}
use Rattle.uc_certify.specs.Testing.{HasPath}
use Rattle.uc_term.specs.declared.node.Sym.{Sym}
use Rattle.uc_term.specs.declared.node.Node.{Node}
use Rattle.uc_term.specs.declared.node.Node.TheVariants.{Var, App}
use Rattle.uc_term.specs.Tree.{Tree, app, none, nodes, put}
use Rattle.uc_term.specs.Flat.{flat, tree_of}
use Rattle.uc_term.specs.Positions.{IsPlaceOf}
use Rattle.uc_term.proofs.Terms.{length-flat}
use Rattle.uc_term.proofs.Put.{flat-put}

-- another symbol than that of a node
other_than : Node → Sym
other_than (Var x) = record { 0 = 0 }
other_than (App f n) = record { 0 = f.0 + 1 }

is_other : (o : Node) → o ≡ App (other_than o) 0 → ⊥
unfolding other_than
is_other (Var x) e = cc
is_other (App f n) e = let h : f.0 ≡ f.0 + 1 = cc in omega (arith, h)

constant : Sym → Tree
constant f = app f none

-- the node at a place at which a constant is put, and before it
put_at_place : (t : Tree) (p : ℕ) (f : Sym) (d : Node) → p < nodes t → get_or (flat (put t p (constant f))) p d ≡ App f 0
unfolding constant
put_at_place t p f d h =
    let e = flat-put t (app f none) p (p + nodes (tree_of (drop p (flat t)))) h refl in
    let l : length (take p (flat t)) ≡ p = grind (arith, common_steps, length-flat t, h) in
    ap (λ l. get_or l p d) (sym e) ∙ grind (arith, common_steps, l)

put_before : (t : Tree) (p q : ℕ) (f : Sym) (d : Node) → p < q → q < nodes t → get_or (flat (put t q (constant f))) p d ≡ get_or (flat t) p d
unfolding constant
put_before t p q f d h k =
    let e = flat-put t (app f none) q (q + nodes (tree_of (drop q (flat t)))) k refl in
    let l : length (take q (flat t)) ≡ q = grind (arith, common_steps, length-flat t, k) in
    ap (λ l. get_or l p d) (sym e) ∙ grind (arith, common_steps, l)

not_earlier : (t : Tree) (p q : ℕ) → p < q → q < nodes t → ((f : Sym) → put t p (constant f) ≡ put t q (constant f)) → ⊥
not_earlier t p q h k same =
    let d : Node = Var 0 in
    let o = get_or (flat t) p d in
    let f = other_than o in
    is_other o (sym (put_before t p q f d h k) ∙ ap (λ u. get_or (flat u) p d) (sym (same f)) ∙ put_at_place t p f d (omega arith))

-- places at which the same is put are one
one_place : (t : Tree) (p q : ℕ) → p < nodes t → q < nodes t → ((f : Sym) → put t p (constant f) ≡ put t q (constant f)) → p ≡ q
one_place t p q h k same = go (let d : (p < q) ⊎ ((p ≡ q) ⊎ (q < p)) = grind arith in d)
  where
    go : (p < q) ⊎ ((p ≡ q) ⊎ (q < p)) → p ≡ q
    go (inl l) = absurd (not_earlier t p q l k same)
    go (inr (inl e)) = e
    go (inr (inr l)) = absurd (not_earlier t q p l h (λ f. sym (same f)))

pub one_path : (t : Tree) (path : List ℕ) (p q : ℕ) → IsPlaceOf t path p → IsPlaceOf t path q → p ≡ q
one_path t path p q a b = one_place t p q a.inside b.inside (λ f. a.puts (constant f) ∙ sym (b.puts (constant f)))

equal_test : (a b : ℕ) → a ≡ b → (a == b) ≡ true
equal_test a b e = elim (cases_Bool (a == b)) as (λ _. (a == b) ≡ true) [
  | inl h ↦ h
  | inr h ↦ absurd (grind (arith, h, e))
]

fact_same : (x y : Equation) → Some x ≡ Some y → x ≡ y
fact_same x y e = cc

module _ (facts : List Equation) (overlap : Overlap) (path : List ℕ) (fact : Equation) (at : slice_get facts overlap.outer ≡ Some fact) where
  same_side : (h : HasPath facts overlap path) → IsPlaceOf (side_of overlap.outer_side fact) path overlap.position.0
  same_side h = subst (λ (e : Equation). IsPlaceOf (side_of overlap.outer_side e) path overlap.position.0) (fact_same h.fact fact (sym h.fact_is ∙ at)) h.path_is

  pub path_at : (place : ℕ) → IsPlaceOf (side_of overlap.outer_side fact) path place → IsTrue (place == overlap.position.0) ↔ HasPath facts overlap path
  path_at place p = (
    λ t. record { fact = fact; fact_is = at; path_is = subst (IsPlaceOf (side_of overlap.outer_side fact) path) (eqb-true place overlap.position.0 t) p },
    λ h. equal_test place overlap.position.0 (one_path (side_of overlap.outer_side fact) path place overlap.position.0 p (same_side h)),
  )

  pub no_path : at_position (side_of overlap.outer_side fact) path ≡ None → HasPath facts overlap path → ⊥
  no_path n h = no_some (same_side h).there
    where
      no_some : {t : Tree} → at_position (side_of overlap.outer_side fact) path ≡ Some t → ⊥
      no_some e = absurd cc
