use Rattle.std.proofs.Common.{◌≡◌, ℕ, ◌<◌, slice_get, Some}
use Rattle.uc_clause.specs.declared.clause.Sourced.{Sourced}
use Rattle.uc_table.specs.Checks.{HasFewEnough}
use Rattle.uc_table.proofs.checking.first_with_too_many.Given as goal

abbrev pub invariant-loop-number : goal.invariant-loop-number
invariant-loop-number l = (k : ℕ) (s : Sourced) → k < l.number → slice_get l.clauses k ≡ Some s → HasFewEnough l.size s
