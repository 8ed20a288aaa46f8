-- Steps of a chain: replacements of equals by equals.
use Rattle.std.specs.Prelude.{ℕ, ◌≡◌, ◌<◌, Bool, true, List, [], ◌∷◌, slice_get, Some, Result, Ok, Err, if◌then◌else◌}
use Rattle.uc_term.specs.Tree.{Tree, apply}
use Rattle.uc_term.specs.Path.{at_position, put_position}
use Rattle.uc_check.specs.declared.proof.Line.{Line}
use Rattle.uc_check.specs.declared.proof.LineStep.{LineStep}
use Rattle.uc_check.specs.declared.proof.LineSource.{LineSource}
use Rattle.uc_check.specs.declared.proof.LineSource.TheVariants.{Refute}
use Rattle.uc_check.specs.declared.checker.Cause.{Cause}
use Rattle.uc_check.specs.declared.checker.Cause.TheVariants.{NotEarlier, NotAReplacement}
use Rattle.uc_check.specs.Tests.{Test}

abbrev pub IsRefutation : LineSource → Type 0
IsRefutation (Refute parents) = Unit {0}
IsRefutation _ = ⊥

-- the side of the line's equation that a step replaces, and the one that takes its place
abbrev pub from_side : Bool → Line → Tree
from_side left_to_right line = if left_to_right then line.left else line.right

abbrev pub to_side : Bool → Line → Tree
to_side left_to_right line = if left_to_right then line.right else line.left

-- The named line is a positive equation; the position exists in the term before; one substitution makes the side that is
-- replaced the subterm there, and the term behind is the one before with the other side's instance in its place.
pub record IsReplacement (lines : List Line) (before : Tree) (step : LineStep) : Type 0 where
  pub line : Line
  pub line_is : slice_get lines step.by ≡ Some line
  pub positive : line.positive ≡ true
  pub equation : IsRefutation line.source → ⊥
  pub part : Tree
  pub part_is : at_position before step.path ≡ Some part
  pub σ : ℕ → Tree
  pub from_is : apply σ (from_side step.left_to_right line) ≡ part
  pub to_is : put_position before step.path (apply σ (to_side step.left_to_right line)) ≡ step.to

-- What the steps of line k come to from a term on: the last term, or the first test that fails. Each step names an earlier
-- line, and is a replacement by it.
abbrev pub Leads : List Line → ℕ → Tree → List LineStep → Result Tree Cause → Type 0
Leads lines k t [] end = end ≡ Ok t
Leads lines k t (step ∷ steps) end = Test (step.by < k) (Err NotEarlier) (Test (IsReplacement lines t step) (Err NotAReplacement) (Leads lines k step.to steps)) end

-- the last term of a chain
abbrev pub chain_end : Tree → List LineStep → Tree
chain_end t [] = t
chain_end t (step ∷ steps) = chain_end step.to steps
