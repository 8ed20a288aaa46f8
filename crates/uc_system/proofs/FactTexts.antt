-- Printed equations that are facts: they are read as they are.
use Rattle.std.proofs.Common.{◌≡◌, ℕ, ◌<◌, ◌≤◌, ◌^◌, ◌==◌, Bool, true, false, List, [], ◌∷◌, ◌++◌, length, length-append, refl, sym, ap, subst, arith, inl, inr}
use Rattle.std.specs.Prelude.{Ok}
use Rattle.std.proofs.lemmas.List.{append_cancel_left, append_cancel_right}
use Rattle.uc_term.specs.declared.node.Sym.{Sym}
use Rattle.uc_term.specs.declared.equation.Equation.{Equation}
use Rattle.uc_term.specs.Tree.{Tree, var, app, Trees, none, more, nodes, nodes_all, apply_all}
use Rattle.uc_term.specs.Over.{AreOver}
use Rattle.uc_term.specs.Table.{Table, IsDistinct, arity_of}
use Rattle.uc_term.specs.Variables.{variables, variables_all, is_among, firsts_after, place_of, renumbered_by}
use Rattle.uc_clause.specs.Items.{equals_alone}
use Rattle.uc_clause.specs.Printable.{IsPrintable, IsPrintableSymbol, AreNumbered}
use Rattle.uc_clause.specs.Reading.{ReadsEquation, SaysSides, IsUnlessMemory}
use Rattle.uc_clause.proofs.Printed.{IsReadable, readable}
use Rattle.uc_clause.proofs.Printing.{numbered_both}
use Rattle.uc_clause.proofs.Alone.{equals_alone_once, says_sides_once}
use Rattle.uc_clause.proofs.Whole.{complete}
use Rattle.uc_order.specs.Members.{In, Each}
use Rattle.uc_system.specs.Facts.{fact_front, fact_end, fact_variables, IsFact, IsFactOfAnySize}
use Rattle.uc_system.specs.Unread.{IsFactText}
use Rattle.uc_system.proofs.EquationAgain.{equation_again}
use Rattle.uc_system.proofs.Precedence.{each_in}

-- the numbers of variables that are numbered by first occurrence
place_by : (x y : ℕ) (ys : List ℕ) (b : Bool) → (x == y) ≡ b → place_of ys x ≤ length ys → place_of (y ∷ ys) x ≤ length (y ∷ ys)
place_by x y ys true e h = rw e (omega arith)
place_by x y ys false e h = rw e (omega arith)

place_within : (xs : List ℕ) (x : ℕ) → place_of xs x ≤ length xs
place_within [] x = omega arith
place_within (y ∷ ys) x = place_by x y ys (x == y) refl (place_within ys x)

mutual
  renumbered_numbers : (xs : List ℕ) → length xs < 2 ^ 32 → (t : Tree) → AreNumbered (variables (renumbered_by xs t))
  renumbered_numbers xs small (var x) = (omega (arith, place_within xs x), tt)
  renumbered_numbers xs small (app f ts) = renumbered_numbers_all xs small ts

  renumbered_numbers_all : (xs : List ℕ) → length xs < 2 ^ 32 → (ts : Trees) → AreNumbered (variables_all (apply_all (λ x. var (place_of xs x)) ts))
  renumbered_numbers_all xs small none = tt
  renumbered_numbers_all xs small (more t ts) = numbered_both (variables (renumbered_by xs t)) (variables_all (apply_all (λ x. var (place_of xs x)) ts)) (renumbered_numbers xs small t) (renumbered_numbers_all xs small ts)

firsts_by : (seen : List ℕ) (x : ℕ) (xs : List ℕ) (b : Bool) → is_among x seen ≡ b → ((more : List ℕ) → length (firsts_after more xs) ≤ length xs) → length (firsts_after seen (x ∷ xs)) ≤ length (x ∷ xs)
firsts_by seen x xs true e h = rw e (omega (arith, h seen))
firsts_by seen x xs false e h = rw e (omega (arith, h (x ∷ seen)))

firsts_few : (seen xs : List ℕ) → length (firsts_after seen xs) ≤ length xs
firsts_few seen [] = omega arith
firsts_few seen (x ∷ xs) = firsts_by seen x xs (is_among x seen) refl (λ more. firsts_few more xs)

mutual
  variables_few : (t : Tree) → length (variables t) ≤ nodes t
  variables_few (var x) = omega arith
  variables_few (app f ts) = omega (arith, variables_few_all ts)

  variables_few_all : (ts : Trees) → length (variables_all ts) ≤ nodes_all ts
  variables_few_all none = omega arith
  variables_few_all (more t ts) = omega (arith, variables_few t, variables_few_all ts, length-append (variables t) (variables_all ts))

module _ (table : Table) (precedence : List Sym) (printable : Each (IsPrintableSymbol table) precedence) where
  mutual
    pub side_printable : (t : Tree) → AreOver (In precedence) (arity_of table) (λ _. Unit {0}) (more t none) → IsPrintable table t
    side_printable (var x) h = tt
    side_printable (app f ts) h = (each_in (IsPrintableSymbol table) precedence f printable h.0.0, h.0.1, sides_printable ts h.0.2)

    sides_printable : (ts : Trees) → AreOver (In precedence) (arity_of table) (λ _. Unit {0}) ts → AreOver (IsPrintableSymbol table) (arity_of table) (λ _. Unit {0}) ts
    sides_printable none h = tt
    sides_printable (more t ts) h = (side_printable t (h.0, tt), sides_printable ts h.1)

  pub record IsReadableFact (e : Equation) : Type 0 where
    pub left : IsReadable table e.left
    pub right : IsReadable table e.right

  module _ (e : Equation) (fact : IsFact table precedence e) where
    numbered_side : (t : Tree) → renumbered_by (fact_variables e) t ≡ t → AreNumbered (variables t)
    numbered_side t in_order =
        let few : length (fact_variables e) < 2 ^ 32 = omega (arith, firsts_few [] (variables e.left ++ variables e.right), length-append (variables e.left) (variables e.right), variables_few e.left, variables_few e.right, fact.left.small, fact.right.small) in
        subst (λ x. AreNumbered (variables x)) in_order (renumbered_numbers (fact_variables e) few t)

    pub fact_readable : IsReadableFact e
    fact_readable = record {
      left = readable table e.left (side_printable e.left (fact.left.over, tt)) (numbered_side e.left fact.in_order.left);
      right = readable table e.right (side_printable e.right (fact.right.over, tt)) (numbered_side e.right fact.in_order.right);
    }

    pub fact_sized : IsFactOfAnySize table precedence e
    fact_sized = record { left = fact.left.over; right = fact.right.over; in_order = fact.in_order; numbered = numbered_both (variables e.left) (variables e.right) (numbered_side e.left fact.in_order.left) (numbered_side e.right fact.in_order.right) }

  -- a printed fact is read as it is
  pub fact_again : (text : List ℕ) (e : Equation) → IsFactText table precedence text e → ReadsEquation text table (e.left, e.right)
  fact_again text e t =
      let r = fact_readable e t.fact in
      let again = equation_again table e r.left r.right t.fact.left.small t.fact.right.small in
      subst (λ x. ReadsEquation x table (e.left, e.right)) (sym t.is) (rw t.fact.in_order.left at (rw t.fact.in_order.right at again))

  module _ (d : IsDistinct table) where
    -- what is read of a text, if anything is, is the fact that is printed so
    pub fact_is : (text : List ℕ) (e : Equation) (pair : Tree × Tree) → IsFactText table precedence text e → ReadsEquation text table pair → pair ≡ (e.left, e.right)
    fact_is text e pair t r =
        let answer = complete equals_alone (SaysSides table) text (equals_alone_once text) (λ tokens. says_sides_once text tokens table d) (Ok pair) r (e.left, e.right) (fact_again text e t) in
        go answer
      where
        go : IsUnlessMemory (Ok (e.left, e.right)) (Ok pair) → pair ≡ (e.left, e.right)
        go (inl q) = cc
        go (inr q) = absurd (cc)

    pub fact_text_once : (text : List ℕ) (e g : Equation) → IsFactText table precedence text e → IsFactText table precedence text g → e ≡ g
    fact_text_once text e g t u =
        let pairs = fact_is text e (g.left, g.right) t (fact_again text g u) in
        let lefts : g.left ≡ e.left = ap (λ (p : Tree × Tree). p.0) pairs in
        let rights : g.right ≡ e.right = ap (λ (p : Tree × Tree). p.1) pairs in
        (λ i. record { left = sym lefts i; right = sym rights i })

-- the text in an equation's place
pub between_once : (k : ℕ) (x y : List ℕ) → fact_front k ++ x ++ fact_end ≡ fact_front k ++ y ++ fact_end → x ≡ y
between_once k x y e = append_cancel_left (fact_front k) x y (append_cancel_right (fact_front k ++ x) (fact_front k ++ y) fact_end e)
