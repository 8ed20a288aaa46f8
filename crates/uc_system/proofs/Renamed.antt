-- The facts' lines say in one table what they say in another one, where the symbols' lines name the same symbols in both.
use Rattle.std.proofs.Common.{◌≡◌, ℕ, ◌+◌, true, List, [], ◌∷◌, ◌++◌, length, map, refl, sym, ap, ap₂, ◌∙◌, subst}
use Rattle.std.proofs.lemmas.List.{map-append, length-map}
use Rattle.uc_term.specs.declared.node.Sym.{Sym}
use Rattle.uc_term.specs.declared.equation.Equation.{Equation}
use Rattle.uc_term.specs.Tree.{Tree, var, app, Trees, none, more, count, nodes, nodes_all, apply_all}
use Rattle.uc_term.specs.Over.{IsTerm, AreOver}
use Rattle.uc_term.specs.Table.{Table, name_of, arity_of}
use Rattle.uc_term.specs.Variables.{variables, variables_all, firsts, place_of, renumbered_by}
use Rattle.uc_clause.specs.Names.{spelling}
use Rattle.uc_clause.specs.Printing.{term_text, args_text, rest_text, sign_text}
use Rattle.uc_clause.specs.Printable.{AreNumbered}
use Rattle.uc_order.specs.Members.{In}
use Rattle.uc_system.specs.Lines.{Outcome, gets, fails}
use Rattle.uc_system.specs.Facts.{fact_front, fact_end, fact_variables, IsInOrder, IsSide, IsFactOfAnySize, HasLargeTerm, left_is_large, right_is_large, IsFactLine, IsLargeLine, is_large, FactsAt, no_more_facts, one_more_fact, has_large_term, is_no_fact, is_no_whole_line}

-- TERMS WITH OTHER SYMBOLS

module _ (r : Sym → Sym) where
  abbrev mutual
    pub renamed : Tree → Tree
    renamed (var x) = var x
    renamed (app f ts) = app (r f) (renamed_all ts)

    pub renamed_all : Trees → Trees
    renamed_all none = none
    renamed_all (more t ts) = more (renamed t) (renamed_all ts)

  abbrev pub renamed_sides : Equation → Equation
  renamed_sides e = record { left = renamed e.left; right = renamed e.right }

  mutual
    nodes_renamed : (t : Tree) → nodes (renamed t) ≡ nodes t
    nodes_renamed (var x) = refl
    nodes_renamed (app f ts) = ap (λ n. n + 1) (all_nodes_renamed ts)

    all_nodes_renamed : (ts : Trees) → nodes_all (renamed_all ts) ≡ nodes_all ts
    all_nodes_renamed none = refl
    all_nodes_renamed (more t ts) = ap₂ (λ m n. m + n) (nodes_renamed t) (all_nodes_renamed ts)

  count_renamed : (ts : Trees) → count (renamed_all ts) ≡ count ts
  count_renamed none = refl
  count_renamed (more t ts) = ap (λ n. n + 1) (count_renamed ts)

  mutual
    variables_renamed : (t : Tree) → variables (renamed t) ≡ variables t
    variables_renamed (var x) = refl
    variables_renamed (app f ts) = all_variables_renamed ts

    all_variables_renamed : (ts : Trees) → variables_all (renamed_all ts) ≡ variables_all ts
    all_variables_renamed none = refl
    all_variables_renamed (more t ts) = ap₂ (λ xs ys. xs ++ ys) (variables_renamed t) (all_variables_renamed ts)

  module _ (xs : List ℕ) where
    mutual
      numbers_renamed : (t : Tree) → renumbered_by xs (renamed t) ≡ renamed (renumbered_by xs t)
      numbers_renamed (var x) = refl
      numbers_renamed (app f ts) = ap (app (r f)) (all_numbers_renamed ts)

      all_numbers_renamed : (ts : Trees) → apply_all (λ x. var (place_of xs x)) (renamed_all ts) ≡ renamed_all (apply_all (λ x. var (place_of xs x)) ts)
      all_numbers_renamed none = refl
      all_numbers_renamed (more t ts) = ap₂ more (numbers_renamed t) (all_numbers_renamed ts)

  same_variables : (e : Equation) → fact_variables (renamed_sides e) ≡ fact_variables e
  same_variables e = ap₂ (λ xs ys. firsts (xs ++ ys)) (variables_renamed e.left) (variables_renamed e.right)

  side_in_order : (e : Equation) (t : Tree) → renumbered_by (fact_variables e) t ≡ t → renumbered_by (fact_variables (renamed_sides e)) (renamed t) ≡ renamed t
  side_in_order e t h = ap (λ xs. renumbered_by xs (renamed t)) (same_variables e) ∙ numbers_renamed (fact_variables e) t ∙ ap renamed h

  in_order_renamed : (e : Equation) → IsInOrder e → IsInOrder (renamed_sides e)
  in_order_renamed e h = record { left = side_in_order e e.left h.left; right = side_in_order e e.right h.right }

-- FACTS

-- each of these symbols of one table has a symbol among those of the other, with its name and its arity
pub record Renames (one other : Table) (from to : List Sym) : Type 0 where
  pub r : Sym → Sym
  pub known : (f : Sym) → In from f → In to (r f)
  pub names : (f : Sym) → In from f → name_of other (r f) ≡ name_of one f
  pub arities : (f : Sym) → In from f → arity_of other (r f) ≡ arity_of one f

module _ (one other : Table) (from to : List Sym) (rs : Renames one other from to) where
  abbrev there : Tree → Tree
  there = renamed rs.r

  abbrev AreSides : Table → List Sym → Trees → Type 0
  AreSides table fs ts = AreOver (In fs) (arity_of table) (λ _. Unit {0}) ts

  mutual
    over_renamed : (t : Tree) → IsTerm (In from) (arity_of one) t → IsTerm (In to) (arity_of other) (there t)
    over_renamed (var x) h = tt
    over_renamed (app f ts) h = (rs.known f h.0, count_renamed rs.r ts ∙ h.1 ∙ sym (rs.arities f h.0), all_over_renamed ts h.2)

    all_over_renamed : (ts : Trees) → AreSides one from ts → AreSides other to (renamed_all rs.r ts)
    all_over_renamed none h = tt
    all_over_renamed (more t ts) h = (over_renamed t h.0, all_over_renamed ts h.1)

  mutual
    text_renamed : (t : Tree) → IsTerm (In from) (arity_of one) t → term_text one t ≡ term_text other (there t)
    text_renamed (var x) h = refl
    text_renamed (app f ts) h = ap₂ (λ n s. spelling n ++ s) (sym (rs.names f h.0)) (args_renamed ts h.2)

    args_renamed : (ts : Trees) → AreSides one from ts → args_text one ts ≡ args_text other (renamed_all rs.r ts)
    args_renamed none h = refl
    args_renamed (more t ts) h = ap₂ (λ p q. 40 ∷ p ++ q) (text_renamed t h.0) (rest_renamed ts h.1)

    rest_renamed : (ts : Trees) → AreSides one from ts → rest_text one ts ≡ rest_text other (renamed_all rs.r ts)
    rest_renamed none h = refl
    rest_renamed (more t ts) h = ap₂ (λ p q. 44 ∷ p ++ q) (text_renamed t h.0) (rest_renamed ts h.1)

  side_renamed : (t : Tree) → IsSide one from t → IsSide other to (there t)
  side_renamed t s = record { over = over_renamed t s.over; small = rw (nodes_renamed rs.r t) s.small }

  fact_line_renamed : (k : ℕ) (line : List ℕ) (e : Equation) → IsFactLine one from k line e → IsFactLine other to k line (renamed_sides rs.r e)
  fact_line_renamed k line e l = record {
    is = l.is ∙ ap₂ (λ p q. fact_front k ++ (p ++ sign_text true ++ q) ++ fact_end) (text_renamed e.left l.fact.left.over) (text_renamed e.right l.fact.right.over);
    fact = record { left = side_renamed e.left l.fact.left; right = side_renamed e.right l.fact.right; in_order = in_order_renamed rs.r e l.fact.in_order };
  }

  large_renamed : (e : Equation) → IsFactOfAnySize one from e → (at : ℕ) → HasLargeTerm one e at → HasLargeTerm other (renamed_sides rs.r e) at
  large_renamed e f _ (left_is_large h) = left_is_large (rw (nodes_renamed rs.r e.left) h)
  large_renamed e f _ (right_is_large h k) = subst (HasLargeTerm other (renamed_sides rs.r e)) (ap (λ x. length (x ++ sign_text true)) (sym (text_renamed e.left f.left))) (right_is_large (rw (nodes_renamed rs.r e.left) h) (rw (nodes_renamed rs.r e.right) k))

  sized_renamed : (e : Equation) → IsFactOfAnySize one from e → IsFactOfAnySize other to (renamed_sides rs.r e)
  sized_renamed e f = record { left = over_renamed e.left f.left; right = over_renamed e.right f.right; in_order = in_order_renamed rs.r e f.in_order; numbered = subst AreNumbered (ap₂ (λ xs ys. xs ++ ys) (sym (variables_renamed rs.r e.left)) (sym (variables_renamed rs.r e.right))) f.numbered }

  large_line_renamed : (k : ℕ) (line : List ℕ) (at : ℕ) → IsLargeLine one from k line at → IsLargeLine other to k line at
  large_line_renamed k line _ (is_large {e = e} {from = at} is f large) =
      is_large (is ∙ ap₂ (λ p q. fact_front k ++ (p ++ sign_text true ++ q) ++ fact_end) (text_renamed e.left f.left) (text_renamed e.right f.right)) (sized_renamed e f) (large_renamed e f at large)

-- both ways
pub record AreAlike (one other : Table) (from to : List Sym) : Type 0 where
  pub there : Renames one other from to
  pub back : Renames other one to from

-- what the lines come to, with the other symbols
abbrev pub with_others : (Equation → Equation) → Outcome (List Equation) → Outcome (List Equation)
with_others f (gets es n rest) = gets (map f es) n rest
with_others f (fails fault) = fails fault

module _ (one other : Table) (from to : List Sym) (alike : AreAlike one other from to) where
  abbrev sides : Equation → Equation
  sides = renamed_sides alike.there.r

  abbrev Line : List Equation → List ℕ → Equation → Type 0
  Line earlier line e = IsFactLine other to (length earlier + 1) line e

  pub facts_renamed : {earlier : List Equation} {n : ℕ} {text : List ℕ} {o : Outcome (List Equation)} → FactsAt one from earlier n text o → FactsAt other to (map sides earlier) n text (with_others sides o)
  facts_renamed (no_more_facts e l) = no_more_facts e l
  facts_renamed {earlier} {n} (one_more_fact {c = c} {e = q} {outcome = o} e l x) =
      let line : IsFactLine other to (length (map sides earlier) + 1) c.line (sides q) = subst (λ k. IsFactLine other to (k + 1) c.line (sides q)) (sym (length-map earlier sides)) (fact_line_renamed one other from to alike.there (length earlier + 1) c.line q l) in
      one_more_fact e line (subst (λ es. FactsAt other to es (n + 1) c.rest (with_others sides o)) (map-append sides earlier (q ∷ [])) (facts_renamed x))
  facts_renamed {earlier} (has_large_term {from = at} {c = c} e l) = has_large_term e (subst (λ k. IsLargeLine other to (k + 1) c.line at) (sym (length-map earlier sides)) (large_line_renamed one other from to alike.there (length earlier + 1) c.line at l))
  facts_renamed {earlier} (is_no_fact {c = c} e l x y) = is_no_fact e l
      (λ g m. x (renamed_sides alike.back.r g) (fact_line_renamed other one to from alike.back (length earlier + 1) c.line g (subst (λ k. IsFactLine other to (k + 1) c.line g) (length-map earlier sides) m)))
      (λ at m. y at (large_line_renamed other one to from alike.back (length earlier + 1) c.line at (subst (λ k. IsLargeLine other to (k + 1) c.line at) (length-map earlier sides) m)))
  facts_renamed (is_no_whole_line e) = is_no_whole_line e
