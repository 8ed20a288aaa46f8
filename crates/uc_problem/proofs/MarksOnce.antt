-- A problem is encoded by one choice of symbols, or has one first goal that is too large.
use Rattle.std.proofs.Common.{◌≡◌, ℕ, ◌+◌, ◌||◌, ◌&&◌, nat_lt, Bool, true, false, List, [], ◌∷◌, cond, Option, Some, None, Ok, Err, refl, ap, ◌∙◌}
use Rattle.std.specs.List.{list_any, position_from}
use Rattle.std.proofs.lemmas.Iterator.Adapters.{position_from-zero}
use Rattle.uc_term.specs.declared.fresh.Fresh.{Fresh}
use Rattle.uc_term.specs.Tree.{nodes}
use Rattle.uc_term.specs.Table.{Table, IsDistinct}
use Rattle.uc_clause.specs.declared.clause.Sourced.{Sourced}
use Rattle.uc_problem.specs.declared.problem.Problem.{Problem}
use Rattle.uc_problem.specs.declared.fault.EncodeFault.TheVariants.{GoalTooLarge}
use Rattle.uc_problem.specs.Marks.{Marks, is_open_goal, is_too_large}
use Rattle.uc_problem.proofs.Outcomes.{yes_or_no, some_once, some_or_none}
use Rattle.uc_problem.proofs.SignatureOnce.{fresh_once}

none_passes : {X : Type 0} (p : X → Bool) (xs : List X) (n : ℕ) → list_any p xs ≡ false → position_from p n xs ≡ None
none_passes p [] n e = refl
none_passes p (x ∷ xs) n e = go (p x) e (none_passes p xs (n + 1))
  where
    go : (b : Bool) → (b || list_any p xs) ≡ false → (list_any p xs ≡ false → position_from p (n + 1) xs ≡ None) → cond b (Some n) (position_from p (n + 1) xs) ≡ None
    go true e later = absurd cc
    go false e later = later e

-- without a goal with a variable none is too large
none_large : (ss : List Sourced) → list_any is_open_goal ss ≡ false → list_any is_too_large ss ≡ false
none_large [] e = refl
none_large (s ∷ ss) e = go (is_open_goal s) (nat_lt 4095 (nodes s.clause.left + nodes s.clause.right)) e (none_large ss)
  where
    go : (a b : Bool) → (a || list_any is_open_goal ss) ≡ false → (list_any is_open_goal ss ≡ false → list_any is_too_large ss ≡ false) → ((a && b) || list_any is_too_large ss) ≡ false
    go true b e later = absurd cc
    go false b e later = later e

module _ (table : Table) (problem : Problem) where
  not_large : (number : ℕ) → list_any is_too_large problem.clauses ≡ false → Marks table problem (Err (GoalTooLarge number)) → ⊥
  not_large number e y = some_or_none y (position_from-zero is_too_large problem.clauses ∙ none_passes is_too_large problem.clauses 0 e)

  pub marked_or_large : (marks : Option Fresh) (number : ℕ) → Marks table problem (Ok marks) → Marks table problem (Err (GoalTooLarge number)) → ⊥
  marked_or_large None number x y = not_large number (none_large problem.clauses x) y
  marked_or_large (Some marks) number x y = not_large number x.1 y

  pub large_once : (a b : ℕ) → Marks table problem (Err (GoalTooLarge a)) → Marks table problem (Err (GoalTooLarge b)) → a ≡ b
  large_once a b x y = some_once x y

  pub marks_once : IsDistinct table → (a b : Option Fresh) → Marks table problem (Ok a) → Marks table problem (Ok b) → a ≡ b
  marks_once distinct None None x y = refl
  marks_once distinct None (Some b) x y = absurd (yes_or_no y.0 x)
  marks_once distinct (Some a) None x y = absurd (yes_or_no x.0 y)
  marks_once distinct (Some a) (Some b) x y =
      let eqs : a.eq ≡ b.eq = fresh_once table distinct x.2.eq y.2.eq in
      let yeses : a.yes ≡ b.yes = fresh_once table distinct x.2.yes y.2.yes in
      let noes : a.no ≡ b.no = fresh_once table distinct x.2.no y.2.no in
      let all : record { eq = a.eq; yes = a.yes; no = a.no } ≡ (let m : Fresh = record { eq = b.eq; yes = b.yes; no = b.no } in m) = rw (eqs, yeses, noes) refl in
      ap Some all
