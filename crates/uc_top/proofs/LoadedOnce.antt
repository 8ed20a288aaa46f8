-- A problem that files hold is one, in one table of symbols. So an answer for the problem file is one for this problem.
use Rattle.std.proofs.Common.{ℕ, ◌≡◌, List, [], Option, Some, refl, ap, subst}
use Rattle.uc_term.specs.Table.{Table, IsDistinct}
use Rattle.uc_edge.specs.Files.{Files}
use Rattle.uc_edge.specs.Faults.{Rose}
use Rattle.uc_problem.specs.declared.problem.Problem.{Problem}
use Rattle.uc_problem.proofs.FilledOnce.{filled_once, filled_problem_once}
use Rattle.uc_problem.proofs.RefusedOnce.{refused_for_once, filled_or_refused}
use Rattle.uc_answer.specs.Lines.{load_line}
use Rattle.uc_top.specs.Loaded.{IsLoaded}
use Rattle.uc_top.specs.Answers.{LoadAnswers, fetch_fails, is_refused, is_loaded}

module _ (files : Files) (root : Option (List ℕ)) (name : List ℕ) where
  module _ (table : Table) (distinct : IsDistinct table) (problem : Problem) (loaded : IsLoaded files root name table problem) where
    pub loaded_once : {other : Table} {held : Problem} → IsDistinct other → IsLoaded files root name other held → (other ≡ table) × (held ≡ problem)
    loaded_once {other} {held} d l = (
      filled_once files root name [] other table d distinct held problem l.filled loaded.filled,
      filled_problem_once files root name [] other table d distinct held problem l.filled loaded.filled,
    )

    -- no fetch failed
    pub answers_for : (AnswersFor : Table → Problem → ℕ → List ℕ → Type 0) (before now : ℕ) {status : ℕ} {text : List ℕ} → (status ≡ 5 → Rose before now → ⊥) → LoadAnswers (Some files) before now AnswersFor root name status text → AnswersFor table problem status text
    answers_for AnswersFor before now well (fetch_fails file rose stops) = absurd (well refl rose)
    answers_for AnswersFor before now well (is_refused why refused e) = absurd (filled_or_refused files root name [] table problem loaded.filled refused)
    answers_for AnswersFor before now {status} {text} well (is_loaded {table = other} {problem = held} d l a) =
        let one = loaded_once d l in
        subst (λ (p : Problem). AnswersFor table p status text) one.1 (subst (λ (t : Table). AnswersFor t held status text) one.0 a)

  -- Two answers for the problem file are one, where those for a problem are.
  module _ (before now again later : ℕ) (First Second : Table → Problem → ℕ → List ℕ → Type 0) where
    abbrev pub AreOnce : Type 0
    AreOnce = (table : Table) (problem : Problem) (s t : ℕ) (a b : List ℕ) → IsDistinct table → IsLoaded files root name table problem → (s ≡ 5 → Rose before now → ⊥) → (t ≡ 5 → Rose again later → ⊥) → First table problem s a → Second table problem t b → (s ≡ t) × (a ≡ b)

    pub load_once : AreOnce → {s t : ℕ} {a b : List ℕ} → (s ≡ 5 → Rose before now → ⊥) → (t ≡ 5 → Rose again later → ⊥) → LoadAnswers (Some files) before now First root name s a → LoadAnswers (Some files) again later Second root name t b → (s ≡ t) × (a ≡ b)
    load_once once v w (fetch_fails file rose stops) y = absurd (v refl rose)
    load_once once v w (is_refused why x e) (fetch_fails file rose stops) = absurd (w refl rose)
    load_once once v w (is_refused why x e) (is_refused other y f) = (refl, ap load_line (refused_for_once files root name [] x y))
    load_once once v w (is_refused why x e) (is_loaded {table = table} {problem = problem} d l b) = absurd (filled_or_refused files root name [] table problem l.filled x)
    load_once once {s} {t} {a} {b} v w (is_loaded {table = table} {problem = problem} d l x) y = once table problem s t a b d l v w x (answers_for table d problem l Second again later w y)

  -- what holds of the status of an answer for the problem file holds of that for the problem
  module _ (before now : ℕ) (AnswersFor : Table → Problem → ℕ → List ℕ → Type 0) (Premise : ℕ → Type 0) where
    pub with_premise : {s : ℕ} {a : List ℕ} → Premise s → LoadAnswers (Some files) before now AnswersFor root name s a → LoadAnswers (Some files) before now (λ table problem status text. Premise status × AnswersFor table problem status text) root name s a
    with_premise p (fetch_fails file rose stops) = fetch_fails file rose stops
    with_premise p (is_refused why x e) = is_refused why x e
    with_premise p (is_loaded d l x) = is_loaded d l (p, x)
