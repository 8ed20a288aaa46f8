use Rattle.std.proofs.Common.{◌≡◌, ◌<◌, ℕ, slice_get, Some}
use Rattle.uc_clause.specs.declared.clause.Sourced.{Sourced}
use Rattle.uc_check.specs.Lines.{SaysSame}
use Rattle.uc_check.proofs.file.is_clause.Given as goal

abbrev pub invariant-loop-sourced : goal.invariant-loop-sourced
invariant-loop-sourced l = (i : ℕ) (s : Sourced) → i < l.sourced-index → slice_get l.clauses i ≡ Some s → SaysSame s.clause l.name l.line.positive l.line.left l.line.right → ⊥
