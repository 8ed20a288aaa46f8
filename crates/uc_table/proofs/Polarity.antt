-- Clauses by their polarity.
use Rattle.std.proofs.Common.{◌≡◌, ℕ, zero, suc, ◌+◌, ◌<◌, ◌≤◌, Bool, true, false, List, [], ◌∷◌, ◌++◌, length, take, drop, get_or, slice_get, Some, if◌then◌else◌, refl, sym, ap, ◌∙◌, subst, arith, append_assoc, append-nil, inl, inr}
use mathlib.Core.Bool.{beq}
use Rattle.std.proofs.lemmas.List.{take_more, take-append-drop, length-take-le}
use Rattle.uc_term.proofs.Gets.{get_pushed}
use Rattle.uc_term.specs.declared.equation.Equation.{Equation}
use Rattle.uc_clause.specs.declared.clause.Sourced.{Sourced}
use Rattle.uc_check.specs.Clauses.{equation_of, axioms_of, goals_of}
use Rattle.uc_problem.specs.Holds.{numbers_of}
use Rattle.uc_table.specs.declared.table.Table.{Table}
use Rattle.uc_table.specs.Checks.{IsFirstAt}
use Rattle.uc_table.specs.Against.{is_same, equations_of, Keeps, KeepAll, IsAgainst}

pub axioms_are : (ss : List Sourced) → equations_of true ss ≡ axioms_of ss
axioms_are [] = refl
axioms_are (s ∷ ss) = go s.clause.positive (axioms_are ss)
  where
    go : (b : Bool) → equations_of true ss ≡ axioms_of ss → (if is_same true b then equation_of s.clause ∷ equations_of true ss else equations_of true ss) ≡ (if b then equation_of s.clause ∷ axioms_of ss else axioms_of ss)
    go true e = ap (λ es. equation_of s.clause ∷ es) e
    go false e = e

pub goals_are : (ss : List Sourced) → equations_of false ss ≡ goals_of ss
goals_are [] = refl
goals_are (s ∷ ss) = go s.clause.positive (goals_are ss)
  where
    go : (b : Bool) → equations_of false ss ≡ goals_of ss → (if is_same false b then equation_of s.clause ∷ equations_of false ss else equations_of false ss) ≡ (if b then goals_of ss else equation_of s.clause ∷ goals_of ss)
    go true e = e
    go false e = ap (λ es. equation_of s.clause ∷ es) e

module _ (positive : Bool) where
  pub equations-append : (xs ys : List Sourced) → equations_of positive (xs ++ ys) ≡ equations_of positive xs ++ equations_of positive ys
  equations-append [] ys = refl
  equations-append (x ∷ xs) ys = go (is_same positive x.clause.positive) (equations-append xs ys)
    where
      go : (b : Bool) → equations_of positive (xs ++ ys) ≡ equations_of positive xs ++ equations_of positive ys → (if b then equation_of x.clause ∷ equations_of positive (xs ++ ys) else equations_of positive (xs ++ ys)) ≡ (if b then equation_of x.clause ∷ equations_of positive xs else equations_of positive xs) ++ equations_of positive ys
      go true e = ap (λ es. equation_of x.clause ∷ es) e
      go false e = e

-- where the numbers of all clauses are below a bound, there are at most so many clauses
pub numbers_bound : (m n : ℕ) (ss : List Sourced) (i : ℕ) → i < length ss → ((j x : ℕ) → slice_get (numbers_of true n ss) j ≡ Some x → x < m) → ((j x : ℕ) → slice_get (numbers_of false n ss) j ≡ Some x → x < m) → n + i < m
numbers_bound m n [] i h p q = absurd (omega arith)
numbers_bound m n (s ∷ ss) i h p q = go s.clause.positive i h p q (numbers_bound m (n + 1) ss)
  where
    go : (b : Bool) (i : ℕ) → i < length (s ∷ ss) → ((j x : ℕ) → slice_get (if b then n ∷ numbers_of true (n + 1) ss else numbers_of true (n + 1) ss) j ≡ Some x → x < m) → ((j x : ℕ) → slice_get (if b then numbers_of false (n + 1) ss else n ∷ numbers_of false (n + 1) ss) j ≡ Some x → x < m) → ((i : ℕ) → i < length ss → ((j x : ℕ) → slice_get (numbers_of true (n + 1) ss) j ≡ Some x → x < m) → ((j x : ℕ) → slice_get (numbers_of false (n + 1) ss) j ≡ Some x → x < m) → n + 1 + i < m) → n + i < m
    go true zero h p q later = omega (arith, p 0 n refl)
    go false zero h p q later = omega (arith, q 0 n refl)
    go true (suc i) h p q later = omega (arith, later i (omega arith) (λ j. p (suc j)) q)
    go false (suc i) h p q later = omega (arith, later i (omega arith) p (λ j. q (suc j)))

pub few_clauses : (m : ℕ) (ss : List Sourced) → ((j x : ℕ) → slice_get (numbers_of true 0 ss) j ≡ Some x → x < m) → ((j x : ℕ) → slice_get (numbers_of false 0 ss) j ≡ Some x → x < m) → length ss ≤ m
few_clauses m [] p q = omega arith
few_clauses m (s ∷ ss) p q = omega (arith, numbers_bound m 0 (s ∷ ss) (length ss) (omega arith) p q)

same_from : (a b : Bool) → beq a b ≡ true → is_same b a ≡ true
same_from true true e = refl
same_from true false e = absurd cc
same_from false true e = absurd cc
same_from false false e = refl

other_from : (a b : Bool) → beq a b ≡ false → is_same b a ≡ false
other_from true true e = absurd cc
other_from true false e = refl
other_from false true e = refl
other_from false false e = absurd cc

pub equal_from : (a b : Bool) → beq a b ≡ true → a ≡ b
equal_from true true e = refl
equal_from true false e = absurd cc
equal_from false true e = absurd cc
equal_from false false e = refl

-- a list with an item in it
get_behind : {A : Type 0} (xs ys : List A) (x : A) → slice_get (xs ++ x ∷ ys) (length xs) ≡ Some x
get_behind [] ys x = refl
get_behind (z ∷ xs) ys x = get_behind xs ys x

get_before : {A : Type 0} (xs ys : List A) (j : ℕ) (y : A) → j < length xs → slice_get (xs ++ ys) j ≡ Some y → slice_get xs j ≡ Some y
get_before [] ys j y h e = absurd (omega arith)
get_before (z ∷ xs) ys zero y h e = e
get_before (z ∷ xs) ys (suc j) y h e = get_before xs ys j y (omega arith) e

module _ (positive : Bool) where
  one_equation : (b : Bool) (s : Sourced) → is_same positive s.clause.positive ≡ b → equations_of positive (s ∷ []) ≡ (if b then equation_of s.clause ∷ [] else [])
  one_equation b s e = rw e refl

  pub more_same : (ss : List Sourced) (i : ℕ) (s : Sourced) → i < length ss → s ≡ get_or ss i s → beq s.clause.positive positive ≡ true → equations_of positive (take (i + 1) ss) ≡ equations_of positive (take i ss) ++ equation_of s.clause ∷ []
  more_same ss i s h is e =
      ap (equations_of positive) (take_more ss i s h ∙ ap (λ x. take i ss ++ x ∷ []) (sym is)) ∙ equations-append positive (take i ss) (s ∷ []) ∙ ap (λ es. equations_of positive (take i ss) ++ es) (one_equation true s (same_from s.clause.positive positive e))

  pub more_other : (ss : List Sourced) (i : ℕ) (s : Sourced) → i < length ss → s ≡ get_or ss i s → beq s.clause.positive positive ≡ false → equations_of positive (take (i + 1) ss) ≡ equations_of positive (take i ss)
  more_other ss i s h is e =
      ap (equations_of positive) (take_more ss i s h ∙ ap (λ x. take i ss ++ x ∷ []) (sym is)) ∙ equations-append positive (take i ss) (s ∷ []) ∙ ap (λ es. equations_of positive (take i ss) ++ es) (one_equation false s (other_from s.clause.positive positive e)) ∙ append-nil (equations_of positive (take i ss))

  pub equations_fewer : (ss : List Sourced) → length (equations_of positive ss) ≤ length ss
  equations_fewer [] = omega arith
  equations_fewer (s ∷ ss) = go (is_same positive s.clause.positive) (equations_fewer ss)
    where
      go : (b : Bool) → length (equations_of positive ss) ≤ length ss → length (if b then equation_of s.clause ∷ equations_of positive ss else equations_of positive ss) ≤ length (s ∷ ss)
      go true h = omega arith
      go false h = omega arith

  pub front_fewer : (ss : List Sourced) (i n : ℕ) → n ≡ length (equations_of positive (take i ss)) → i < length ss → n < length ss
  front_fewer ss i n e h = omega (arith, equations_fewer (take i ss), length-take-le i ss (omega arith))

  -- the equations with the one of a clause in them
  split_at : (ss : List Sourced) (i : ℕ) (s : Sourced) → i < length ss → s ≡ get_or ss i s → beq s.clause.positive positive ≡ true → equations_of positive ss ≡ equations_of positive (take i ss) ++ equation_of s.clause ∷ equations_of positive (drop (i + 1) ss)
  split_at ss i s h is e =
      let parts : take (i + 1) ss ++ drop (i + 1) ss ≡ ss = take-append-drop (i + 1) ss in
      sym (ap (equations_of positive) parts) ∙ equations-append positive (take (i + 1) ss) (drop (i + 1) ss) ∙ ap (λ es. es ++ equations_of positive (drop (i + 1) ss)) (more_same ss i s h is e) ∙ append_assoc (equations_of positive (take i ss)) (equation_of s.clause ∷ []) (equations_of positive (drop (i + 1) ss))

  module _ (table : Table) where
    pub keep_more : (es : List Equation) (e : Equation) → KeepAll table positive es → Keeps table positive e → KeepAll table positive (es ++ e ∷ [])
    keep_more es e all one k y is = elim (get_pushed es e k y is) [ inl h ↦ all k y h | inr h ↦ subst (Keeps table positive) (sym h.1) one ]

    pub first_at : (ss : List Sourced) (i n : ℕ) (s : Sourced) (vs : List ℕ) → n ≡ length (equations_of positive (take i ss)) → i < length ss → s ≡ get_or ss i s → beq s.clause.positive positive ≡ true → KeepAll table positive (equations_of positive (take i ss)) → IsAgainst table s.clause.positive vs (equation_of s.clause) → (e : Equation) × IsFirstAt (Keeps table positive) (IsAgainst table positive vs) (equations_of positive ss) n e
    first_at ss i n s vs c h is e all bad =
        let split : equations_of positive ss ≡ equations_of positive (take i ss) ++ equation_of s.clause ∷ equations_of positive (drop (i + 1) ss) = split_at ss i s h is e in (
          equation_of s.clause,
          record {
            is = rw (split, c) (get_behind (equations_of positive (take i ss)) (equations_of positive (drop (i + 1) ss)) (equation_of s.clause));
            bad = subst (λ b. IsAgainst table b vs (equation_of s.clause)) (equal_from s.clause.positive positive e) bad;
            before = λ j y l k. all j y (get_before (equations_of positive (take i ss)) (equation_of s.clause ∷ equations_of positive (drop (i + 1) ss)) j y (omega arith) (subst (λ es. slice_get es j ≡ Some y) split k));
          },
        )
