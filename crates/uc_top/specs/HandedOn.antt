-- What loading hands on to a command: an answer, or a problem.
use Rattle.std.specs.Prelude.{ℕ, List, [], Option, None, Result, Ok, Err}
use Rattle.uc_term.specs.Table.{Table, IsDistinct}
use Rattle.uc_edge.specs.Files.{Files}
use Rattle.uc_edge.specs.Faults.{IsCounted}
use Rattle.uc_problem.specs.declared.fault.LoadFault.{LoadFault}
use Rattle.uc_problem.specs.declared.problem.Problem.{Problem}
use Rattle.uc_problem.specs.Holds.{Agrees, IsProblem, IsLoadFault}
use Rattle.uc_problem.specs.Refusing.{IsStopped}
use Rattle.uc_problem.specs.Filling.{WhereTold, IsFilled}
use Rattle.uc_answer.specs.Lines.{joined}
use Rattle.uc_top.specs.declared.loading.Loaded.{Loaded}
use Rattle.uc_top.specs.declared.loading.Loaded.TheVariants.{Refused, Held}
use Rattle.uc_top.specs.Answers.{LoadAnswers}
use Rattle.uc_top.specs.Faulting.{TellsFault}

-- nothing is answered for a problem
abbrev pub AnswersNone : Table → Problem → ℕ → List ℕ → Type 0
AnswersNone table problem status answer = ⊥

-- Where the library tells its files, they have this problem under this name, and loading it leaves this table of its symbols.
pub record IsHeld (holds : Option Files) (root : Option (List ℕ)) (name : List ℕ) (table : Table) (problem : Problem) : Type 0 where
  pub distinct : IsDistinct table
  pub agrees : Agrees table problem
  pub filled : WhereTold holds (λ files. IsFilled files root name [] table problem)
  pub is_problem : IsProblem table holds root name problem

-- Why no problem is loaded. The library's count of faults was and is this.
pub record IsUnheld (holds : Option Files) (before now : ℕ) (root : Option (List ℕ)) (name : List ℕ) (why : LoadFault) : Type 0 where
  pub table : Table
  pub refused : IsLoadFault table holds before now root name why
  pub stopped : WhereTold holds (λ files. IsStopped files root name [] why)

-- The answer where no problem is loaded; or the problem that is. The library's count of faults was and is this.
abbrev pub IsHandedOn : Option Files → ℕ → ℕ → Option (List ℕ) → List ℕ → Loaded → Type 0
IsHandedOn holds before now root name (Refused answer) = LoadAnswers holds before now AnswersNone root name answer.status (joined answer.lines)
IsHandedOn holds before now root name (Held problem table) = IsHeld holds root name table problem

-- The library's count of faults was and is this, and the names at which it had and has failed are these.
module _ (before now : ℕ) (old new : List (List ℕ)) where
  -- an answer tells of the fetch that failed, if one did; where a problem is handed on, none did
  abbrev pub HandsFault : Loaded → Type 0
  HandsFault (Refused answer) = TellsFault before now old new [] answer.status (joined answer.lines)
  HandsFault (Held problem table) = IsCounted None before now old new

  -- so it is, or memory is wanted, which comes either way
  abbrev pub IsHandFaulted : {E : Type 0} → Result Loaded E → Type 0
  IsHandFaulted (Ok loaded) = HandsFault loaded
  IsHandFaulted (Err e) = (file : Option (List ℕ)) × IsCounted file before now old new
