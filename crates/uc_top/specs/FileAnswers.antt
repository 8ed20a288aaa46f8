-- What is answered of a file that is read beside the problem's: a proof's, or a table's.
use Rattle.std.specs.Prelude.{ℕ, ◌≡◌, List, take, codes, Option, Some, None}
use Rattle.uc_edge.specs.Files.{Files}
use Rattle.uc_edge.specs.Faults.{Rose}
use Rattle.uc_edge.specs.declared.library.Fetched.{Fetched}
use Rattle.uc_edge.specs.declared.library.Fetched.TheVariants.{Found, Absent, Failed}
use Rattle.uc_problem.specs.Loading.{held}
use Rattle.uc_problem.specs.Filling.{WhereTold}
use Rattle.uc_answer.specs.Lines.{about_file}

-- what a fetch answers of the file of this name: its first bytes, as many as are asked for; that there is none; or a failure, which
-- comes only where the count of faults rose
abbrev pub IsTextFetched : ℕ → Option Files → ℕ → ℕ → List ℕ → Fetched → Type 0
IsTextFetched most holds before now name (Found bytes) = WhereTold holds (λ files. (text : List ℕ) × (held files name ≡ Some text) × (bytes ≡ take most text))
IsTextFetched most holds before now name Absent = WhereTold holds (λ files. held files name ≡ None)
IsTextFetched most holds before now name Failed = Rose before now

-- The answer for the file of this name, where it is so for the file's text. The library's files are these, where it tells them, and its
-- count of faults was and is this.
module _ (holds : Option Files) (before now : ℕ) (AnswersFor : List ℕ → ℕ → List ℕ → Type 0) (name : List ℕ) where
  pub data FileAnswers : ℕ → List ℕ → Type 0 where
    is_absent : WhereTold holds (λ files. held files name ≡ None) → FileAnswers 3 (about_file name (codes "Absent"))
    isnt_fetched : Rose before now → FileAnswers 5 (about_file name (codes "ReadFault"))
    is_found : {text : List ℕ} {status : ℕ} {answer : List ℕ} → WhereTold holds (λ files. held files name ≡ Some text) → AnswersFor text status answer → FileAnswers status answer
