-- What the checker answers.
use Rattle.std.specs.Prelude.{ℕ, ◌≡◌, ◌<◌, ◌+◌, List, [], length, slice_get, Option, Some, None}
use Rattle.uc_term.specs.declared.fresh.Fresh.{Fresh}
use Rattle.uc_clause.specs.declared.clause.Sourced.{Sourced}
use Rattle.uc_check.specs.declared.proof.Line.{Line}
use Rattle.uc_check.specs.declared.checker.Cause.{Cause}
use Rattle.uc_check.specs.declared.checker.Cause.TheVariants.{NoGoal}
use Rattle.uc_check.specs.declared.checker.Checked.{Checked}
use Rattle.uc_check.specs.declared.checker.Checked.TheVariants.{Accepted, Rejected}
use Rattle.uc_check.specs.Replacements.{IsRefutation}
use Rattle.uc_check.specs.Lines.{Tested}

-- the last line is a refute line
pub record EndsInRefutation (lines : List Line) : Type 0 where
  pub last : ℕ
  pub last_is : last + 1 ≡ length lines
  pub line : Line
  pub line_is : slice_get lines last ≡ Some line
  pub refutes : IsRefutation line.source

module _ (clauses : List Sourced) (fresh : Option Fresh) (lines : List Line) where
  -- line k passes each of its tests
  abbrev pub IsRightLine : ℕ → Type 0
  IsRightLine k = (line : Line) → slice_get lines k ≡ Some line → Tested clauses fresh lines k line line.source None

  -- all lines before line k are right
  abbrev pub AreRightBefore : ℕ → Type 0
  AreRightBefore k = (j : ℕ) → j < k → IsRightLine j

  -- line k is the first that isn't right, and this is the cause of its first test that fails
  pub record FailsFirst (k : ℕ) (cause : Cause) : Type 0 where
    pub line : Line
    pub line_is : slice_get lines k ≡ Some line
    pub before : AreRightBefore k
    pub test : Tested clauses fresh lines k line line.source (Some cause)

  -- the first line and test that fails, or none
  abbrev pub FirstFailure : Option (ℕ × Cause) → Type 0
  FirstFailure None = AreRightBefore (length lines)
  FirstFailure (Some failure) = FailsFirst failure.0 failure.1

  -- all lines are right, and the last one refutes a goal; or the first line that fails, and else the last line
  pub data IsChecked : Checked → Type 0 where
    accepted : AreRightBefore (length lines) → EndsInRefutation lines → IsChecked Accepted
    rejected : {k : ℕ} {cause : Cause} → FailsFirst k cause → IsChecked (Rejected (Some k) cause)
    no_line : lines ≡ [] → IsChecked (Rejected None NoGoal)
    no_refutation : {last : ℕ} → AreRightBefore (length lines) → last + 1 ≡ length lines → (EndsInRefutation lines → ⊥) → IsChecked (Rejected (Some last) NoGoal)
