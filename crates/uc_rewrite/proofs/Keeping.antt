-- What a walk keeps: the terms of its steps' variables, which are irreducible, and passes over where they stand again.
use Rattle.std.proofs.Common.{◌≡◌, ℕ, zero, suc, ◌+◌, ◌-◌, List, [], ◌∷◌, ◌++◌, length, take, drop, Some, slice_get, unwrap_or, refl, sym, ap, ap₂, ◌∙◌, arith, length-append, subst, inl, inr}
use Rattle.std.proofs.lemmas.List.{take-append-drop}
use Rattle.uc_term.specs.declared.node.Node.{Node}
use Rattle.uc_term.specs.declared.node.Sym.{Sym}
use Rattle.uc_term.specs.Tree.{Tree, var, app, Trees, none, more, apply, apply_all, nodes}
use Rattle.uc_term.specs.Variables.{Occurs, is_itself, in_args, OccursIn, in_first, in_later, IsApp, is_among, variables}
use Rattle.uc_term.specs.Flat.{flat, tree_of, IsWhole}
use Rattle.uc_term.specs.Code.{spelled-flat}
use Rattle.uc_term.specs.Equations.{side_of}
use Rattle.uc_term.specs.Subst.{found, image}
use Rattle.uc_term.specs.Within.{under, at_first, at_later}
use Rattle.uc_term.proofs.Pairs.{found_among}
use Rattle.uc_term.proofs.Terms.{nodes_pos}
use Rattle.uc_unify.specs.Matching.{IsMatch}
use Rattle.uc_order.specs.Members.{Each}
use Rattle.uc_fact.specs.Live.{Live, AreRising, equations_of, fact_at, rules_of}
use Rattle.uc_fact.specs.Ordered.{IsIrreducible, AreIrreducible, IsIrreducibleBelow}
use Rattle.uc_fact.proofs.Occurring.{occurs}
use Rattle.uc_fact.proofs.Matched.{first_is_one}
use Rattle.uc_rewrite.specs.declared.walk.Open.{Open}
use Rattle.uc_rewrite.specs.declared.walk.Redex.{Redex}
use Rattle.uc_rewrite.specs.Completed.{AreSides, completed}
use Rattle.uc_rewrite.specs.Walking.{AreKept, IsKeptPart, IsKeptValue, Keeps, GoesIn, enters_it, leaves_it, GoesOn, Advances, Walks, Stops, hole}
use Rattle.uc_rewrite.proofs.Frames.{drop_hole}
use Rattle.uc_rewrite.proofs.Reading.{none_below}
use Rattle.uc_rewrite.proofs.Choosing.{Chosen, chosen, all_known}
use Rattle.uc_rewrite.proofs.Advancing.{Descent, descended, left_behind}

tree_front : (t : Tree) (ns : List Node) → tree_of (flat t ++ ns) ≡ t
tree_front t ns = rw (spelled-flat t ns) refl

-- of two terms with which a list begins, each is the other one
one_front : (c v : Tree) (rest : List Node) (n : ℕ) → take n (flat c ++ rest) ≡ flat v → c ≡ v
one_front c v rest n h =
    let e : flat v ++ drop n (flat c ++ rest) ≡ flat c ++ rest = ap (λ l. l ++ drop n (flat c ++ rest)) (sym h) ∙ take-append-drop n (flat c ++ rest) in
    sym (tree_front c rest) ∙ ap tree_of (sym e) ∙ tree_front v (drop n (flat c ++ rest))

kept_at : {A : Type 0} (P : A → Type 0) (xs : List A) (n : ℕ) (x : A) → slice_get xs n ≡ Some x → Each P xs → P x
kept_at P [] n x h e = absurd cc
kept_at P (y ∷ xs) zero x h e = subst P (let s : y ≡ x = cc in s) e.0
kept_at P (y ∷ xs) (suc n) x h e = kept_at P xs n x h e.1

first_ones : {A : Type 0} (P : A → Type 0) (n : ℕ) (xs : List A) → Each P xs → Each P (take n xs)
first_ones P zero xs e = tt
first_ones P (suc n) [] e = tt
first_ones P (suc n) (x ∷ xs) e = (e.0, first_ones P n xs e.1)

one_more : {A : Type 0} (P : A → Type 0) (xs : List A) (x : A) → Each P xs → P x → Each P (xs ++ x ∷ [])
one_more P [] x e p = (p, tt)
one_more P (y ∷ xs) x e p = (e.0, one_more P xs x e.1 p)

module _ (Greater : Tree → Tree → Type 0) (least : Sym) (live : List Live) where
  abbrev N : Tree → Type 0
  N = IsIrreducible Greater least (equations_of live)

  abbrev Ns : Trees → Type 0
  Ns = AreIrreducible Greater least (equations_of live)

  below : (f : Sym) (us : Trees) → N (app f us) → Ns us
  below f us n vs w = n (app f vs) (under w)

  first_one : (t : Tree) (ts : Trees) → Ns (more t ts) → N t
  first_one t ts n v w = n (more v ts) (at_first w)

  later_ones : (t : Tree) (ts : Trees) → Ns (more t ts) → Ns ts
  later_ones t ts n vs w = n (more t vs) (at_later w)

  -- the term of a variable that occurs in a term whose instance is irreducible
  mutual
    value : (σ : ℕ → Tree) (x : ℕ) (p : Tree) → Occurs x p → N (apply σ p) → N (σ x)
    value σ x (var _) is_itself n = n
    value σ x (app f ts) (in_args o) n = value_in σ x ts o (below f (apply_all σ ts) n)

    value_in : (σ : ℕ → Tree) (x : ℕ) (ts : Trees) → OccursIn x ts → Ns (apply_all σ ts) → N (σ x)
    value_in σ x none o n = elim o [ ]
    value_in σ x (more t ts) (in_first o) n = value σ x t o (first_one (apply σ t) (apply_all σ ts) n)
    value_in σ x (more t ts) (in_later o) n = value_in σ x ts o (later_ones (apply σ t) (apply_all σ ts) n)

  by_args : (σ : ℕ → Tree) (x : ℕ) (p u : Tree) → IsApp p → Occurs x p → apply σ p ≡ u → IsIrreducibleBelow Greater least (equations_of live) u → N (σ x)
  by_args σ x (var y) u a o e n = absurd a
  by_args σ x (app f ts) u a (in_args o) e n = value_in σ x ts o (subst (IsIrreducibleBelow Greater least (equations_of live)) (sym e) n)

  -- the terms of a match of a term whose arguments are irreducible
  match_kept : (p u : Tree) (pairs : List (ℕ × Tree)) → IsApp p → IsMatch p u pairs → IsIrreducibleBelow Greater least (equations_of live) u → (x : ℕ) (v : Tree) → found pairs x ≡ Some v → N v
  match_kept p u pairs a m n x v e =
      let o : Occurs x p = occurs x p (first_is_one [] (variables p) x (sym (ap (is_among x) m.pairs_are) ∙ found_among pairs x v e)) in
      subst N (ap (λ q. unwrap_or q (var x)) e) (by_args (image pairs) x p u a o m.gives n)

  -- the substitution of a step
  module _ (rising : AreRising live) (list : List Node) (front : List Open) (redex : Redex) (s : Stops Greater least live (tree_of list) front redex) (from to : Tree) (sides : AreSides live redex.found from to) where
    by : Chosen Greater least live s.u (rules_of live) redex.found
    by = chosen Greater least live s.u (rules_of live) redex.found (all_known live rising) s.first

    from_is : by.rule.from ≡ from
    from_is =
        let e : by.known.equation ≡ sides.equation = (let p : fact_at live redex.found.fact ≡ Some by.known.equation = ap (fact_at live) by.number_is ∙ by.known.equation_is in let q = sides.equation_is in cc) in
        by.known.from_is ∙ ap₂ side_of (sym by.side_is) e ∙ sym sides.from_is

    values : IsApp from → (x : ℕ) (v : Tree) → found redex.found.subst x ≡ Some v → N v
    values a = match_kept from s.u redex.found.subst a (subst (λ z. IsMatch z s.u redex.found.subst) from_is by.is_match) (none_below Greater least live s.u s.behind)

    step_kept : (old new : List (List (ℕ × Tree))) → AreKept Greater least live old → Keeps from redex.found.subst old new → AreKept Greater least live new
    step_kept old new k (inl e) = subst (AreKept Greater least live) (sym e) k
    step_kept old new k (inr e) = subst (AreKept Greater least live) (sym e.2) (one_more (λ pairs. (x : ℕ) (v : Tree) → found pairs x ≡ Some v → N v) (take e.1 old) redex.found.subst (first_ones (λ pairs. (x : ℕ) (v : Tree) → found pairs x ≡ Some v → N v) e.1 old k) (values e.0))

    pub still_kept : (ns : List Node) (end place new_place : ℕ) (old opened : List Open) (kept new : List (List (ℕ × Tree))) → AreKept Greater least live kept → GoesIn from to redex.found.subst ns end old place kept opened new_place new → AreKept Greater least live new
    still_kept ns end place new_place old opened kept new k (enters_it o p m) = step_kept kept new k m
    still_kept ns end place new_place old opened kept new k (leaves_it o p m v) = subst (AreKept Greater least live) (sym m) k

    -- a new subterm that is left behind at once
    pub value_irreducible : IsKeptValue from to redex.found.subst → N (apply (completed least redex.found.subst) to)
    value_irreducible k = subst N (sym (ap (apply (completed least redex.found.subst)) k.other_is ∙ ap (λ p. unwrap_or p (app least none)) k.v_is)) (values k.no_variable k.x k.v k.v_is)

  -- over the next argument
  module _ (list : List Node) (w : IsWhole list) (front : List Open) (top : Open) (place : ℕ) (kept : List (List (ℕ × Tree))) (k : AreKept Greater least live kept) (d : Descent Greater least live list w front top place) where
    passed : (opened : List Open) (to : ℕ) → opened ≡ front ++ record { place = top.place; pending = top.pending - 1 } ∷ [] → IsKeptPart kept list place to → Advances Greater least live list front place opened to
    passed opened to e p = (over, omega (arith, ap length e, length-append front (record { place = top.place; pending = top.pending - 1 } ∷ []), p.to_is, nodes_pos p.v, d.within))
      where
        same : d.argument ≡ p.v
        same = one_front d.argument p.v _ (to - place) (ap (λ l. take (to - place) l) (sym (ap (λ n. drop n list) d.place_is ∙ drop_hole list w d.frames d.argument d.t_is)) ∙ p.part_is)

        irreducible : N d.argument
        irreducible = subst N (sym same) (kept_at (λ pairs. (x : ℕ) (v : Tree) → found pairs x ≡ Some v → N v) kept p.number p.pairs p.pairs_are k p.x p.v p.v_is)

        to_is : to ≡ hole d.frames + nodes d.argument
        to_is = omega (arith, p.to_is, d.place_is, ap nodes same)

        over : Walks Greater least live (tree_of list) opened to
        over = left_behind Greater least live list w opened top to d.frames d.argument d.t_is (e ∙ d.opened_is) to_is d.frames_behind irreducible

    pub went_on : (opened : List Open) (to : ℕ) → GoesOn kept list top front place opened to → Advances Greater least live list front place opened to
    went_on opened to (inl m) = descended Greater least live list w front top place d opened to m.0 m.1
    went_on opened to (inr m) = passed opened to m.0 m.1
