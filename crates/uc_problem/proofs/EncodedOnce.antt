-- A problem has one encoding, and the laws of the encoding hold of it.
use Rattle.std.proofs.Common.{◌≡◌, ℕ, zero, suc, ◌||◌, Bool, true, false, List, [], ◌∷◌, slice_get, Option, Some, Ok, if◌then◌else◌, refl, sym, ap, ◌∙◌, subst}
use Rattle.std.specs.Prelude.{◌↔◌}
use Rattle.std.specs.List.{list_any}
use Rattle.uc_term.specs.Tree.{Tree}
use Rattle.uc_term.specs.Table.{Table, IsDistinct}
use Rattle.uc_term.specs.Conversion.{Conv, SomeFollows}
use Rattle.uc_term.specs.Encoding.{AreDistinct, Lacks, LackAll, HasGoal, yes_term, no_term}
use Rattle.uc_term.specs.declared.equation.Equation.{Equation}
use Rattle.uc_term.specs.declared.fresh.Fresh.{Fresh}
use Rattle.uc_term.proofs.Encoding.{goal_follows, yes_no_from_goal, none_added, weaker}
use Rattle.uc_clause.specs.declared.clause.Sourced.{Sourced}
use Rattle.uc_check.specs.Clauses.{LackInClauses, equation_of, axioms_of}
use Rattle.uc_problem.specs.declared.problem.Problem.{Problem}
use Rattle.uc_problem.specs.declared.problem.Encoded.{Encoded}
use Rattle.uc_problem.specs.declared.encoding.Kind.TheVariants.{Axiom}
use Rattle.uc_problem.specs.Holds.{Agrees}
use Rattle.uc_problem.specs.Kinds.{is_of}
use Rattle.uc_problem.specs.Marks.{is_open_goal, Marks}
use Rattle.uc_problem.specs.Encodes.{equations_where, encoding_of, Encodes}
use Rattle.uc_problem.proofs.FreshMarks.{are_fresh}
use Rattle.uc_problem.proofs.MarksOnce.{marks_once}
use Rattle.uc_problem.proofs.Encodings.{axioms_are}

pub encoding_once : (table : Table) (problem : Problem) → IsDistinct table → (a b : Encoded) → Encodes table problem (Ok a) → Encodes table problem (Ok b) → a ≡ b
encoding_once table problem distinct a b x y = x.1 ∙ ap (encoding_of problem) (marks_once table problem distinct a.fresh b.fresh x.0 y.0) ∙ sym y.1

module _ (is : Sourced → Bool) where
  -- each of the equations is a clause's
  where_from : (ss : List Sourced) (j : ℕ) (e : Equation) → slice_get (equations_where is ss) j ≡ Some e → (i : ℕ) × (s : Sourced) × (slice_get ss i ≡ Some s) × (equation_of s.clause ≡ e)
  where_from [] j e h = absurd cc
  where_from (c ∷ cs) j e h = go (λ i x. where_from cs i e x) (is c) j h
    where
      later : (i : ℕ) × (s : Sourced) × (slice_get cs i ≡ Some s) × (equation_of s.clause ≡ e) → (i : ℕ) × (s : Sourced) × (slice_get (c ∷ cs) i ≡ Some s) × (equation_of s.clause ≡ e)
      later r = (suc r.0, r.1, r.2, r.3)

      go : ((j : ℕ) → slice_get (equations_where is cs) j ≡ Some e → ((i : ℕ) × (s : Sourced) × (slice_get cs i ≡ Some s) × (equation_of s.clause ≡ e))) → (b : Bool) (j : ℕ) → slice_get (if b then equation_of c.clause ∷ equations_where is cs else equations_where is cs) j ≡ Some e → (i : ℕ) × (s : Sourced) × (slice_get (c ∷ cs) i ≡ Some s) × (equation_of s.clause ≡ e)
      go rec true zero h = (0, c, refl, cc)
      go rec true (suc j) h = later (rec j h)
      go rec false j h = later (rec j h)

  where_lack : (m : Fresh) (ss : List Sourced) → LackInClauses m ss → LackAll m (equations_where is ss)
  where_lack m ss are j e h =
      let r = where_from ss j e h in
      subst (λ (d : Equation). Lacks m d.left × Lacks m d.right) r.3 (are r.0 r.1 r.2)

  -- where a clause is so, there is an equation
  some_where : (ss : List Sourced) → list_any is ss ≡ true → HasGoal (equations_where is ss)
  some_where [] e = absurd cc
  some_where (c ∷ cs) e = go (is c) e (some_where cs)
    where
      go : (b : Bool) → (b || list_any is cs) ≡ true → (list_any is cs ≡ true → HasGoal (equations_where is cs)) → HasGoal (if b then equation_of c.clause ∷ equations_where is cs else equations_where is cs)
      go true e rec = record { number = 0; goal = equation_of c.clause; goal_is = refl }
      go false e rec = rec e

module _ (table : Table) (problem : Problem) (agrees : Agrees table problem) (m : Fresh) (marks : Marks table problem (Ok (Some m))) where
  abbrev axioms : List Equation
  axioms = axioms_of problem.clauses

  abbrev open_goals : List Equation
  open_goals = equations_where is_open_goal problem.clauses

  fresh : AreDistinct m × LackInClauses m problem.clauses
  fresh = are_fresh table problem m agrees marks.2

  axioms_lack : LackAll m axioms
  axioms_lack = subst (LackAll m) (axioms_are problem.clauses) (where_lack (is_of Axiom) m problem.clauses fresh.1)

  open_lack : LackAll m open_goals
  open_lack = where_lack is_open_goal m problem.clauses fresh.1

  has_open : HasGoal open_goals
  has_open = some_where is_open_goal problem.clauses marks.0

  decides_of : Conv (encoding_of problem (Some m)).axioms (yes_term m) (no_term m) ↔ SomeFollows axioms open_goals
  decides_of = (goal_follows m axioms open_goals fresh.0 axioms_lack open_lack has_open, yes_no_from_goal m axioms open_goals fresh.0 axioms_lack open_lack)

  adds_of : (u v : Tree) → Lacks m u → Lacks m v → Conv (encoding_of problem (Some m)).axioms u v ↔ Conv axioms u v
  adds_of u v lu lv = (none_added m axioms open_goals fresh.0 axioms_lack open_lack u v lu lv, weaker m axioms open_goals fresh.0 axioms_lack open_lack)

module _ (table : Table) (problem : Problem) (agrees : Agrees table problem) (answer : Encoded) (m : Fresh) (encodes : Encodes table problem (Ok answer)) (marked : answer.fresh ≡ Some m) where
  its_marks : Marks table problem (Ok (Some m))
  its_marks = subst (λ (f : Option Fresh). Marks table problem (Ok f)) marked encodes.0

  its_axioms : answer.axioms ≡ (encoding_of problem (Some m)).axioms
  its_axioms = ap (λ (e : Encoded). e.axioms) (encodes.1 ∙ ap (encoding_of problem) marked)

  pub decides : Conv answer.axioms (yes_term m) (no_term m) ↔ SomeFollows (axioms_of problem.clauses) (equations_where is_open_goal problem.clauses)
  decides = subst (λ (es : List Equation). Conv es (yes_term m) (no_term m) ↔ SomeFollows (axioms_of problem.clauses) (equations_where is_open_goal problem.clauses)) (sym its_axioms) (decides_of table problem agrees m its_marks)

  pub adds_nothing : (u v : Tree) → Lacks m u → Lacks m v → Conv answer.axioms u v ↔ Conv (axioms_of problem.clauses) u v
  adds_nothing u v lu lv = subst (λ (es : List Equation). Conv es u v ↔ Conv (axioms_of problem.clauses) u v) (sym its_axioms) (adds_of table problem agrees m its_marks u v lu lv)
