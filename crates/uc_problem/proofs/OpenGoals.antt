-- The goals of a problem with variables, and which of them are too large.
use Rattle.std.proofs.Common.{◌≡◌, ℕ, zero, suc, ◌+◌, ◌<◌, ◌||◌, Bool, true, false, cond, List, [], ◌∷◌, drop, length, get_or, slice_get, add-one, drop-cons, Option, Some, None, if◌then◌else◌, refl, sym, ap, ◌∙◌, subst, arith}
use Rattle.std.specs.Prelude.{position}
use Rattle.std.specs.List.{list_any, position_from}
use Rattle.std.proofs.lemmas.Iterator.Adapters.{position_from-zero}
use Rattle.std.proofs.lemmas.Option.{slice_get-get_or}
use Rattle.uc_term.specs.Encoding.{HasGoal}
use Rattle.uc_clause.specs.declared.clause.Sourced.{Sourced}
use Rattle.uc_check.specs.Clauses.{equation_of, goals_of}
use Rattle.uc_problem.specs.Holds.{numbers_of}
use Rattle.uc_problem.specs.Marks.{is_open_goal, is_too_large, large_or, first_large}

module _ (s : Sourced) (ss : List Sourced) where
  goal_numbered : (n : ℕ) → s.clause.positive ≡ false → numbers_of false n (s ∷ ss) ≡ n ∷ numbers_of false (n + 1) ss
  goal_numbered n e = rw e refl

  axiom_passed : (n : ℕ) → s.clause.positive ≡ true → numbers_of false n (s ∷ ss) ≡ numbers_of false (n + 1) ss
  axiom_passed n e = rw e refl

  axiom_small : s.clause.positive ≡ true → is_too_large s ≡ false
  axiom_small e = rw e refl

  axiom_not_open : s.clause.positive ≡ true → is_open_goal s ≡ false
  axiom_not_open e = rw e refl

  goal_there : s.clause.positive ≡ false → goals_of (s ∷ ss) ≡ equation_of s.clause ∷ goals_of ss
  goal_there e = rw e refl

  goal_not_there : s.clause.positive ≡ true → goals_of (s ∷ ss) ≡ goals_of ss
  goal_not_there e = rw e refl

-- the numbers of the goals are those of clauses
pub numbers_within : (ss : List Sourced) (n i k : ℕ) → slice_get (numbers_of false n ss) i ≡ Some k → k < n + length ss
numbers_within [] n i k e = absurd cc
numbers_within (s ∷ ss) n i k e = go s.clause.positive refl i
    (numbers_within ss (n + 1)) e
  where
    go : (b : Bool) → s.clause.positive ≡ b → (i : ℕ) → ((j m : ℕ) → slice_get (numbers_of false (n + 1) ss) j ≡ Some m → m < n + 1 + length ss) → slice_get (numbers_of false n (s ∷ ss)) i ≡ Some k → k < n + length (s ∷ ss)
    go true p i later e = let h = later i k (ap (λ l. slice_get l i) (sym (axiom_passed s ss n p)) ∙ e) in omega (arith, h)
    go false p zero later e = let same : Some n ≡ Some k = ap (λ l. slice_get l 0) (sym (goal_numbered s ss n p)) ∙ e in let q : n ≡ k = cc in omega (arith, q)
    go false p (suc i) later e = let h = later i k (ap (λ l. slice_get l (suc i)) (sym (goal_numbered s ss n p)) ∙ e) in omega (arith, h)

-- the first goal that is too large is the first clause that is
choose : (b : Bool) (x y z : Option ℕ) → y ≡ z → (if b then x else y) ≡ cond b x z
choose true x y z e = refl
choose false x y z e = e

passed : (b : Bool) (x z : Option ℕ) → b ≡ false → z ≡ cond b x z
passed true x z e = absurd cc
passed false x z e = refl

pub first_from : (all ss : List Sourced) (n : ℕ) → ((j : ℕ) (s : Sourced) → slice_get ss j ≡ Some s → slice_get all (n + j) ≡ Some s) → first_large all (numbers_of false n ss) ≡ position_from is_too_large n ss
first_from all [] n at = refl
first_from all (s ∷ ss) n at = go s.clause.positive refl
    (first_from all ss (n + 1) (λ j x e. let q : n + suc j ≡ n + 1 + j = omega arith in subst (λ (k : ℕ). slice_get all k ≡ Some x) q (at (suc j) x e)))
  where
    here : slice_get all n ≡ Some s
    here = let q : n + 0 ≡ n = omega arith in subst (λ (k : ℕ). slice_get all k ≡ Some s) q (at 0 s refl)

    go : (b : Bool) → s.clause.positive ≡ b → first_large all (numbers_of false (n + 1) ss) ≡ position_from is_too_large (n + 1) ss → first_large all (numbers_of false n (s ∷ ss)) ≡ position_from is_too_large n (s ∷ ss)
    go true p later = ap (first_large all) (axiom_passed s ss n p) ∙ later ∙ passed (is_too_large s) (Some n) (position_from is_too_large (n + 1) ss) (axiom_small s ss p)
    go false p later =
        ap (first_large all) (goal_numbered s ss n p) ∙ ap (λ o. if large_or o then Some n else first_large all (numbers_of false (n + 1) ss)) here
        ∙ choose (is_too_large s) (Some n) (first_large all (numbers_of false (n + 1) ss)) (position_from is_too_large (n + 1) ss) later

pub first_is_position : (ss : List Sourced) (goals : List ℕ) → goals ≡ numbers_of false 0 ss → first_large ss goals ≡ position is_too_large ss
first_is_position ss goals e = ap (first_large ss) e ∙ first_from ss ss 0 (λ j s q. let k : 0 + j ≡ j = omega arith in subst (λ (m : ℕ). slice_get ss m ≡ Some s) (sym k) q) ∙ sym (position_from-zero is_too_large ss)

none_from : (ss : List Sourced) (n : ℕ) → position_from is_too_large n ss ≡ None → list_any is_too_large ss ≡ false
none_from [] n e = refl
none_from (s ∷ ss) n e = go (is_too_large s) e (none_from ss (n + 1))
  where
    go : (b : Bool) → cond b (Some n) (position_from is_too_large (n + 1) ss) ≡ None → (position_from is_too_large (n + 1) ss ≡ None → list_any is_too_large ss ≡ false) → (b || list_any is_too_large ss) ≡ false
    go true e later = absurd cc
    go false e later = later e

pub none_too_large : (ss : List Sourced) (goals : List ℕ) → goals ≡ numbers_of false 0 ss → first_large ss goals ≡ None → list_any is_too_large ss ≡ false
none_too_large ss goals e n = none_from ss 0 (sym (position_from-zero is_too_large ss) ∙ sym (first_is_position ss goals e) ∙ n)

-- the search among the goals
module _ (ss : List Sourced) (goals : List ℕ) (i n : ℕ) (d : ℕ) (other s : Sourced) (h : i < length goals) (at : n ≡ get_or goals i d) (within : n < length ss) (is : s ≡ get_or ss n other) where
  rest : drop i goals ≡ n ∷ drop (i + 1) goals
  rest = rw (at, add-one, drop-cons goals i d) refl

  there : slice_get ss n ≡ Some s
  there = slice_get-get_or ss n other within ∙ ap Some (sym is)

  first_rest : first_large ss (drop i goals) ≡ (if is_too_large s then Some n else first_large ss (drop (i + 1) goals))
  first_rest = ap (first_large ss) rest ∙ ap (λ o. if large_or o then Some n else first_large ss (drop (i + 1) goals)) there

  pub large_here : is_too_large s ≡ true → first_large ss (drop i goals) ≡ Some n
  large_here e = first_rest ∙ ap (λ b. if b then Some n else first_large ss (drop (i + 1) goals)) e

  pub small_here : is_too_large s ≡ false → first_large ss (drop i goals) ≡ first_large ss (drop (i + 1) goals)
  small_here e = first_rest ∙ ap (λ b. if b then Some n else first_large ss (drop (i + 1) goals)) e

pub goal_within : (ss : List Sourced) (goals : List ℕ) (i d : ℕ) → goals ≡ numbers_of false 0 ss → i < length goals → get_or goals i d < length ss
goal_within ss goals i d e h =
    let k = numbers_within ss 0 i (get_or goals i d) (ap (λ l. slice_get l i) (sym e) ∙ slice_get-get_or goals i d h) in
    omega (arith, k)

-- where a goal has a variable, there is a goal
either : (a b : Bool) → (a || b) ≡ true → a ≡ false → b ≡ true
either true b e f = absurd cc
either false b e f = e

pub has_goal : (ss : List Sourced) → list_any is_open_goal ss ≡ true → HasGoal (goals_of ss)
has_goal [] e = absurd cc
has_goal (s ∷ ss) e = go s.clause.positive refl (has_goal ss)
  where
    go : (b : Bool) → s.clause.positive ≡ b → (list_any is_open_goal ss ≡ true → HasGoal (goals_of ss)) → HasGoal (goals_of (s ∷ ss))
    go true p later = subst HasGoal (sym (goal_not_there s ss p)) (later (either (is_open_goal s) (list_any is_open_goal ss) e (axiom_not_open s ss p)))
    go false p later = subst HasGoal (sym (goal_there s ss p)) (record { number = 0; goal = equation_of s.clause; goal_is = refl })
