-- Where an encoded problem is decided and its goals are apart, no goal of the problem follows.
use Rattle.std.proofs.Common.{◌⊎◌, inl, inr, ℕ, zero, suc, ◌≡◌, ◌||◌, Bool, true, false, List, [], ◌∷◌, ◌++◌, length, map, slice_get, Option, Some, None, Ok, if◌then◌else◌, refl, sym, ap, ◌∙◌, subst}
use Rattle.std.specs.List.{list_any}
use Rattle.uc_term.specs.Tree.{Tree, var, app, Trees, none, more}
use Rattle.uc_term.specs.Over.{IsTerm, IsGround, AreOver, AreGround}
use Rattle.uc_term.specs.Table.{Table}
use Rattle.uc_term.specs.Variables.{has_variable, any_has_variable}
use Rattle.uc_term.specs.Conversion.{Conv, SomeFollows}
use Rattle.uc_term.specs.Encoding.{reflexive, refuted, encoded, yes_term, no_term}
use Rattle.uc_term.specs.declared.node.Sym.{Sym}
use Rattle.uc_term.specs.declared.equation.Equation.{Equation}
use Rattle.uc_term.specs.declared.fresh.Fresh.{Fresh}
use Rattle.uc_term.proofs.Terms.{apply-var}
use Rattle.uc_term.proofs.Conversion.{Conv-turn, Conv-follows, equation_turn}
use Rattle.uc_term.proofs.Gets.{get_pushed}
use Rattle.uc_clause.specs.declared.clause.Sourced.{Sourced}
use Rattle.uc_check.specs.Clauses.{equation_of, axioms_of, goals_of}
use Rattle.uc_problem.specs.declared.problem.Problem.{Problem}
use Rattle.uc_problem.specs.declared.problem.Encoded.{Encoded}
use Rattle.uc_problem.specs.Holds.{Agrees}
use Rattle.uc_problem.specs.Marks.{Marks, is_open_goal}
use Rattle.uc_problem.specs.Encodes.{is_ground_goal, equations_where, last_goal, encoding_of, Encodes}
use Rattle.uc_problem.proofs.EncodedOnce.{decides}

-- GROUND TERMS

or_left : (a b : Bool) → (a || b) ≡ false → a ≡ false
or_left true b e = e
or_left false b e = refl

or_right : (a b : Bool) → (a || b) ≡ false → b ≡ false
or_right true b e = absurd cc
or_right false b e = e

module _ (has : Sym → Type 0) (arity : Sym → ℕ) where
  mutual
    pub ground_term : (t : Tree) → IsTerm has arity t → has_variable t ≡ false → IsGround has arity t
    ground_term (var x) h e = absurd cc
    ground_term (app f ts) h e = (h.0, h.1, ground_terms ts h.2 e)

    ground_terms : (ts : Trees) → AreOver has arity (λ _. Unit {0}) ts → any_has_variable ts ≡ false → AreGround has arity ts
    ground_terms none h e = tt
    ground_terms (more t ts) h e = (ground_term t h.0 (or_left (has_variable t) (any_has_variable ts) e), ground_terms ts h.1 (or_right (has_variable t) (any_has_variable ts) e))

abbrev pub IsClosed : Equation → Type 0
IsClosed e = (has_variable e.left ≡ false) × (has_variable e.right ≡ false)

both_closed : (s : Sourced) (e : Equation) → (has_variable s.clause.left || has_variable s.clause.right) ≡ false → equation_of s.clause ≡ e → IsClosed e
both_closed s e h same = subst IsClosed same (or_left (has_variable s.clause.left) (has_variable s.clause.right) h, or_right (has_variable s.clause.left) (has_variable s.clause.right) h)

-- goals where none has a variable
none_open : (ss : List Sourced) → list_any is_open_goal ss ≡ false → (n : ℕ) (e : Equation) → slice_get (goals_of ss) n ≡ Some e → IsClosed e
none_open [] h n e at = absurd cc
none_open (s ∷ ss) h n e at = go s.clause.positive (or_left (is_open_goal s) (list_any is_open_goal ss) h) n at (none_open ss (or_right (is_open_goal s) (list_any is_open_goal ss) h))
  where
    go : (p : Bool) → (if p then false else has_variable s.clause.left || has_variable s.clause.right) ≡ false → (n : ℕ) → slice_get (if p then goals_of ss else equation_of s.clause ∷ goals_of ss) n ≡ Some e → ((n : ℕ) (d : Equation) → slice_get (goals_of ss) n ≡ Some d → IsClosed d) → IsClosed e
    go true q n at later = later n e at
    go false q zero at later = both_closed s e q (let same : equation_of s.clause ≡ e = cc in same)
    go false q (suc n) at later = later n e at

-- and those without a variable
where_closed : (ss : List Sourced) (n : ℕ) (e : Equation) → slice_get (equations_where is_ground_goal ss) n ≡ Some e → IsClosed e
where_closed [] n e at = absurd cc
where_closed (s ∷ ss) n e at = go s.clause.positive (has_variable s.clause.left || has_variable s.clause.right) refl n at (where_closed ss)
  where
    go : (p b : Bool) → (has_variable s.clause.left || has_variable s.clause.right) ≡ b → (n : ℕ) → slice_get (if (if p then false else if (if p then false else b) then false else true) then equation_of s.clause ∷ equations_where is_ground_goal ss else equations_where is_ground_goal ss) n ≡ Some e → ((n : ℕ) (d : Equation) → slice_get (equations_where is_ground_goal ss) n ≡ Some d → IsClosed d) → IsClosed e
    go true b q n at later = later n e at
    go false true q n at later = later n e at
    go false false q zero at later = both_closed s e q (let same : equation_of s.clause ≡ e = cc in same)
    go false false q (suc n) at later = later n e at

-- GOALS

abbrev IsIn : List Equation → Equation → Type 0
IsIn es e = (k : ℕ) × (slice_get es k ≡ Some e)

next_one : (e : Equation) (es : List Equation) (d : Equation) → IsIn es d → IsIn (e ∷ es) d
next_one e es d h = (suc h.0, h.1)

-- a goal has a variable or is ground
open_or_ground : (ss : List Sourced) (n : ℕ) (e : Equation) → slice_get (goals_of ss) n ≡ Some e → IsIn (equations_where is_open_goal ss) e ⊎ IsIn (equations_where is_ground_goal ss) e
open_or_ground [] n e at = absurd cc
open_or_ground (s ∷ ss) n e at = go s.clause.positive (has_variable s.clause.left || has_variable s.clause.right) n at (open_or_ground ss)
  where
    behind_open : IsIn (equations_where is_open_goal ss) e ⊎ IsIn (equations_where is_ground_goal ss) e → IsIn (equation_of s.clause ∷ equations_where is_open_goal ss) e ⊎ IsIn (equations_where is_ground_goal ss) e
    behind_open (inl h) = inl (next_one (equation_of s.clause) (equations_where is_open_goal ss) e h)
    behind_open (inr h) = inr h

    behind_ground : IsIn (equations_where is_open_goal ss) e ⊎ IsIn (equations_where is_ground_goal ss) e → IsIn (equations_where is_open_goal ss) e ⊎ IsIn (equation_of s.clause ∷ equations_where is_ground_goal ss) e
    behind_ground (inl h) = inl h
    behind_ground (inr h) = inr (next_one (equation_of s.clause) (equations_where is_ground_goal ss) e h)

    go : (p b : Bool) (n : ℕ) → slice_get (if p then goals_of ss else equation_of s.clause ∷ goals_of ss) n ≡ Some e → ((n : ℕ) (d : Equation) → slice_get (goals_of ss) n ≡ Some d → IsIn (equations_where is_open_goal ss) d ⊎ IsIn (equations_where is_ground_goal ss) d) → IsIn (if (if p then false else b) then equation_of s.clause ∷ equations_where is_open_goal ss else equations_where is_open_goal ss) e ⊎ IsIn (if (if p then false else if (if p then false else b) then false else true) then equation_of s.clause ∷ equations_where is_ground_goal ss else equations_where is_ground_goal ss) e
    go true b n at later = later n e at
    go false true zero at later = inl (zero, at)
    go false true (suc n) at later = behind_open (later n e at)
    go false false zero at later = inr (zero, at)
    go false false (suc n) at later = behind_ground (later n e at)

left_get : (xs ys : List Equation) (k : ℕ) (e : Equation) → slice_get xs k ≡ Some e → slice_get (xs ++ ys) k ≡ Some e
left_get [] ys k e at = absurd cc
left_get (x ∷ xs) ys zero e at = at
left_get (x ∷ xs) ys (suc k) e at = left_get xs ys k e at

last_get : (xs : List Equation) (e : Equation) → slice_get (xs ++ e ∷ []) (length xs) ≡ Some e
last_get [] e = refl
last_get (x ∷ xs) e = last_get xs e

-- what the axioms make equal the encoded ones do
module _ (marks : Fresh) (es gs : List Equation) where
  own : (i : ℕ) (e : Equation) → slice_get es i ≡ Some e → Conv (encoded marks es gs) e.left e.right
  own i e k = let t = equation_turn (encoded marks es gs) i e (left_get es (reflexive marks ∷ map (refuted marks) gs) i e k) var in Conv-turn (encoded marks es gs) e.left e.right (rw (apply-var e.left, apply-var e.right) at t)

  weaker : {u v : Tree} → Conv es u v → Conv (encoded marks es gs) u v
  weaker c = Conv-follows es (encoded marks es gs) own c

-- THE ENCODED PROBLEM

module _ (table : Table) (problem : Problem) (agrees : Agrees table problem) where
  abbrev axioms : List Equation
  axioms = axioms_of problem.clauses

  closed_of : (fresh : Option Fresh) → Marks table problem (Ok fresh) → (n : ℕ) (e : Equation) → slice_get (encoding_of problem fresh).goals n ≡ Some e → IsClosed e
  closed_of None m n e at = none_open problem.clauses m n e at
  closed_of (Some marks) m n e at = go (get_pushed (equations_where is_ground_goal problem.clauses) (last_goal marks) n e at)
    where
      go : (slice_get (equations_where is_ground_goal problem.clauses) n ≡ Some e) ⊎ ((n ≡ length (equations_where is_ground_goal problem.clauses)) × (e ≡ last_goal marks)) → IsClosed e
      go (inl here) = where_closed problem.clauses n e here
      go (inr last) = subst IsClosed (sym last.1) (refl, refl)

  -- the goals of the encoded problem have no variable
  pub goals_closed : (answer : Encoded) → Encodes table problem (Ok answer) → (n : ℕ) (e : Equation) → slice_get answer.goals n ≡ Some e → IsClosed e
  goals_closed answer h n e at = closed_of answer.fresh h.0 n e (subst (λ (x : Encoded). slice_get x.goals n ≡ Some e) h.1 at)

  module _ (marks : Fresh) (convert : SomeFollows axioms (equations_where is_open_goal problem.clauses) → Conv (encoding_of problem (Some marks)).axioms (yes_term marks) (no_term marks)) where
    abbrev ground : List Equation
    ground = equations_where is_ground_goal problem.clauses

    marked_follows : SomeFollows axioms (goals_of problem.clauses) → SomeFollows (encoding_of problem (Some marks)).axioms (encoding_of problem (Some marks)).goals
    marked_follows f = go (open_or_ground problem.clauses f.number f.goal f.goal_is)
      where
        go : IsIn (equations_where is_open_goal problem.clauses) f.goal ⊎ IsIn ground f.goal → SomeFollows (encoding_of problem (Some marks)).axioms (encoding_of problem (Some marks)).goals
        go (inl h) = record {
          number = length ground;
          goal = last_goal marks;
          goal_is = last_get ground (last_goal marks);
          follows = record { σ = var; conversion = convert (record { number = h.0; goal = f.goal; goal_is = h.1; follows = f.follows }) };
        }
        go (inr h) = record {
          number = h.0;
          goal = f.goal;
          goal_is = left_get ground (last_goal marks ∷ []) h.0 f.goal h.1;
          follows = record { σ = f.follows.σ; conversion = weaker marks axioms (equations_where is_open_goal problem.clauses) f.follows.conversion };
        }

  module _ (answer : Encoded) (h : Encodes table problem (Ok answer)) where
    abbrev Wanted : Encoded → Type 0
    Wanted x = SomeFollows axioms (goals_of problem.clauses) → SomeFollows x.axioms x.goals

    by_fresh : (fresh : Option Fresh) → answer.fresh ≡ fresh → Wanted (encoding_of problem fresh)
    by_fresh None e f = f
    by_fresh (Some marks) e f =
        let same : answer ≡ encoding_of problem (Some marks) = h.1 ∙ ap (encoding_of problem) e in
        marked_follows marks (λ some. subst (λ (x : Encoded). Conv x.axioms (yes_term marks) (no_term marks)) same ((decides table problem agrees answer marks h e).1 some)) f

    -- where a goal of the problem follows, one of the encoded problem does
    pub encoded_follows : SomeFollows axioms (goals_of problem.clauses) → SomeFollows answer.axioms answer.goals
    encoded_follows f = subst Wanted (sym h.1) (by_fresh answer.fresh refl) f
