-- From what loading hands on to the answers.
use Rattle.std.proofs.Common.{ℕ, ◌<◌, List, Option, Some, None, Result, Ok, Err, arith}
use Rattle.std.specs.Result.{IfOk}
use Rattle.std.specs.declared.alloc.AllocError.{AllocError}
use Rattle.uc_term.specs.Table.{Table}
use Rattle.uc_edge.specs.Files.{Files}
use Rattle.uc_problem.specs.declared.problem.Problem.{Problem}
use Rattle.uc_problem.specs.Filling.{WhereTold}
use Rattle.uc_problem.proofs.Later.{Grows-refl}
use Rattle.uc_answer.specs.declared.answer.Answer.{Answer}
use Rattle.uc_answer.specs.Lines.{joined}
use Rattle.uc_top.specs.Answers.{LoadAnswers, fetch_fails, is_refused, is_loaded}
use Rattle.uc_top.specs.HandedOn.{AnswersNone, IsHeld}
use Rattle.uc_top.specs.Loaded.{IsLoaded}

pub held : (holds : Option Files) (root : Option (List ℕ)) (name : List ℕ) (table : Table) (problem : Problem) → IsHeld holds root name table problem → WhereTold holds (λ files. IsLoaded files root name table problem)
held None root name table problem h = tt
held (Some files) root name table problem h = record { filled = h.filled; holds = h.is_problem table (Grows-refl table) }

module _ (holds : Option Files) (before now : ℕ) (root : Option (List ℕ)) (name : List ℕ) where
  -- the answer where no problem is loaded
  pub refused_for : (AnswersFor : Table → Problem → ℕ → List ℕ → Type 0) {status : ℕ} {answer : List ℕ} → LoadAnswers holds before now AnswersNone root name status answer → LoadAnswers holds before now AnswersFor root name status answer
  refused_for AnswersFor (fetch_fails file rose stops) = fetch_fails file rose stops
  refused_for AnswersFor (is_refused why x e) = is_refused why x e
  refused_for AnswersFor (is_loaded d l a) = absurd a

  pub refused_high : {status : ℕ} {answer : List ℕ} → LoadAnswers holds before now AnswersNone root name status answer → 2 < status
  refused_high (fetch_fails file rose stops) = omega arith
  refused_high (is_refused why x e) = omega arith
  refused_high (is_loaded d l a) = absurd a

  -- the answer for the problem that is
  pub loaded_for : (AnswersFor : Table → Problem → ℕ → List ℕ → Type 0) (table : Table) (problem : Problem) (r : Result Answer AllocError) → IsHeld holds root name table problem → IfOk r (λ answer. AnswersFor table problem answer.status (joined answer.lines)) → IfOk r (λ answer. LoadAnswers holds before now AnswersFor root name answer.status (joined answer.lines))
  loaded_for AnswersFor table problem (Ok answer) h a = is_loaded h.distinct (held holds root name table problem h) a
  loaded_for AnswersFor table problem (Err fault) h a = tt
