-- A table is one thing to a problem.
use Rattle.std.proofs.Common.{◌≡◌, ℕ, ◌≤◌, List, slice_get, Some, refl, sym, ap, ap₂, ◌∙◌, subst, arith, inl, inr}
use Rattle.std.proofs.lemmas.Bool.{cases_lt}
use Rattle.uc_term.specs.declared.equation.Equation.{Equation}
use Rattle.uc_clause.specs.declared.clause.Sourced.{Sourced}
use Rattle.uc_check.specs.Clauses.{axioms_of, goals_of}
use Rattle.uc_table.specs.declared.table.Table.{Table}
use Rattle.uc_table.specs.declared.answers.Tabled.{Tabled}
use Rattle.uc_table.specs.declared.answers.Tabled.TheVariants.{AxiomFails, GoalMeets, Assignments}
use Rattle.uc_table.specs.Algebras.{place_of, given}
use Rattle.uc_table.specs.Tables.{IsRow}
use Rattle.uc_table.specs.Models.{Assigns, Agree, Differ, Satisfies, KeepsApart, SatisfiesAll, KeepsAllApart}
use Rattle.uc_table.specs.Checks.{variable_count, HasTooMany, HasFewEnough, AreFewEnough, IsFirstAt, IsFirstAssignment, FailsAt, MeetsAt, Checks, has_too_many, axiom_fails, goal_meets, is_model}
use Rattle.uc_table.proofs.Cells.{get_below}
use Rattle.uc_table.proofs.Lists.{place_once}

-- the first one is one, where nothing is good and bad
first_once : {A : Type 0} (Good Bad Worse : A → Type 0) → ((z : A) → Good z → Bad z → ⊥) → ((z : A) → Good z → Worse z → ⊥) → (xs : List A) (k j : ℕ) (x y : A) → IsFirstAt Good Bad xs k x → IsFirstAt Good Worse xs j y → (k ≡ j) × (x ≡ y)
first_once Good Bad Worse bad worse xs k j x y a b =
    elim (cases_lt k j) [
      | inl l ↦ absurd (bad x (b.before k x l a.is) a.bad)
      | inr l ↦
          elim (cases_lt j k) [
            | inl m ↦ absurd (worse y (a.before j y m b.is) b.bad)
            | inr m ↦
                (let same : k ≡ j = omega arith in
                let at : slice_get xs j ≡ Some x = subst (λ i. slice_get xs i ≡ Some x) same a.is in
                let one : Some x ≡ Some y = sym at ∙ b.is in
                let both : x ≡ y = cc in
                (same, both))
          ]
    ]

assignment_once : (size count : ℕ) (Good Bad : (ℕ → ℕ) → Type 0) → ((α : ℕ → ℕ) → Good α → Bad α → ⊥) → (us vs : List ℕ) → IsFirstAssignment size count Good Bad us → IsFirstAssignment size count Good Bad vs → us ≡ vs
assignment_once size count Good Bad never us vs a b =
    elim (cases_lt (place_of size us) (place_of size vs)) [
      | inl l ↦ absurd (never (given us) (b.before us a.assigns l) a.bad)
      | inr l ↦
          elim (cases_lt (place_of size vs) (place_of size us)) [
            | inl m ↦ absurd (never (given vs) (a.before vs b.assigns m) b.bad)
            | inr m ↦
                place_once size us vs (a.assigns.as_many ∙ sym b.assigns.as_many) a.assigns.values b.assigns.values (omega arith)
          ]
    ]

module _ (table : Table) (some : 1 ≤ table.size) where
  row_assigns : (count : ℕ) (vs : List ℕ) → IsRow table.size count vs → Assigns table.size (given vs)
  row_assigns count vs r x = get_below table.size (omega arith) vs x r.values

  no_failure : (vs : List ℕ) (e : Equation) → Satisfies table e → FailsAt table vs e → ⊥
  no_failure vs e h f = f.bad (h (given vs) (row_assigns (variable_count e) vs f.assigns))

  no_meeting : (vs : List ℕ) (e : Equation) → KeepsApart table e → MeetsAt table vs e → ⊥
  no_meeting vs e h f = h (given vs) (row_assigns (variable_count e) vs f.assigns) f.bad

  few_or_many : (s : Sourced) → HasFewEnough table.size s → HasTooMany table.size s → ⊥
  few_or_many s h k = omega arith

  module _ (clauses : List Sourced) where
    same_failure : (k j : ℕ) (d e : Equation) (us vs : List ℕ) → IsFirstAt (Satisfies table) (FailsAt table us) (axioms_of clauses) k d → IsFirstAt (Satisfies table) (FailsAt table vs) (axioms_of clauses) j e → AxiomFails k us ≡ AxiomFails j vs
    same_failure k j d e us vs a b =
        let one = first_once (Satisfies table) (FailsAt table us) (FailsAt table vs) (no_failure us) (no_failure vs) (axioms_of clauses) k j d e a b in
        let bad : FailsAt table us e = subst (FailsAt table us) one.1 a.bad in
        ap₂ AxiomFails one.0 (assignment_once table.size (variable_count e) (Agree table e) (Differ table e) (λ α h n. n h) us vs bad b.bad)

    same_meeting : (k j : ℕ) (d e : Equation) (us vs : List ℕ) → IsFirstAt (KeepsApart table) (MeetsAt table us) (goals_of clauses) k d → IsFirstAt (KeepsApart table) (MeetsAt table vs) (goals_of clauses) j e → GoalMeets k us ≡ GoalMeets j vs
    same_meeting k j d e us vs a b =
        let one = first_once (KeepsApart table) (MeetsAt table us) (MeetsAt table vs) (no_meeting us) (no_meeting vs) (goals_of clauses) k j d e a b in
        let bad : MeetsAt table us e = subst (MeetsAt table us) one.1 a.bad in
        ap₂ GoalMeets one.0 (assignment_once table.size (variable_count e) (Differ table e) (Agree table e) (λ α n h. n h) us vs bad b.bad)

    many_not_few : (k : ℕ) (s : Sourced) → IsFirstAt (HasFewEnough table.size) (HasTooMany table.size) clauses k s → AreFewEnough table.size clauses → ⊥
    many_not_few k s a few = few_or_many s (few k s a.is) a.bad

    failure_not_all : (k : ℕ) (e : Equation) (vs : List ℕ) → IsFirstAt (Satisfies table) (FailsAt table vs) (axioms_of clauses) k e → SatisfiesAll table (axioms_of clauses) → ⊥
    failure_not_all k e vs a h = no_failure vs e (h k e a.is) a.bad

    meeting_not_all : (k : ℕ) (e : Equation) (vs : List ℕ) → IsFirstAt (KeepsApart table) (MeetsAt table vs) (goals_of clauses) k e → KeepsAllApart table (goals_of clauses) → ⊥
    meeting_not_all k e vs a h = no_meeting vs e (h k e a.is) a.bad

    pub verdict_once : (a b : Tabled) → Checks table clauses a → Checks table clauses b → a ≡ b
    verdict_once a b (has_too_many {k} {s} m) (has_too_many {k = j} {s = t} n) = ap Assignments (first_once (HasFewEnough table.size) (HasTooMany table.size) (HasTooMany table.size) few_or_many few_or_many clauses k j s t m n).0
    verdict_once a b (has_too_many {k} {s} m) (axiom_fails few n) = absurd (many_not_few k s m few)
    verdict_once a b (has_too_many {k} {s} m) (goal_meets few h n) = absurd (many_not_few k s m few)
    verdict_once a b (has_too_many {k} {s} m) (is_model few h) = absurd (many_not_few k s m few)
    verdict_once a b (axiom_fails few m) (has_too_many {k} {s} n) = absurd (many_not_few k s n few)
    verdict_once a b (axiom_fails {k} {e} {vs} few m) (axiom_fails {k = j} {e = d} {vs = us} other n) = same_failure k j e d vs us m n
    verdict_once a b (axiom_fails {k} {e} {vs} few m) (goal_meets other h n) = absurd (failure_not_all k e vs m h)
    verdict_once a b (axiom_fails {k} {e} {vs} few m) (is_model other h) = absurd (failure_not_all k e vs m h.axioms)
    verdict_once a b (goal_meets few h m) (has_too_many {k} {s} n) = absurd (many_not_few k s n few)
    verdict_once a b (goal_meets few h m) (axiom_fails {k} {e} {vs} other n) = absurd (failure_not_all k e vs n h)
    verdict_once a b (goal_meets {k} {e} {vs} few h m) (goal_meets {k = j} {e = d} {vs = us} other i n) = same_meeting k j e d vs us m n
    verdict_once a b (goal_meets {k} {e} {vs} few h m) (is_model other i) = absurd (meeting_not_all k e vs m i.goals)
    verdict_once a b (is_model few h) (has_too_many {k} {s} n) = absurd (many_not_few k s n few)
    verdict_once a b (is_model few h) (axiom_fails {k} {e} {vs} other n) = absurd (failure_not_all k e vs n h.axioms)
    verdict_once a b (is_model few h) (goal_meets {k} {e} {vs} other i n) = absurd (meeting_not_all k e vs n h.goals)
    verdict_once a b (is_model few h) (is_model other i) = refl
