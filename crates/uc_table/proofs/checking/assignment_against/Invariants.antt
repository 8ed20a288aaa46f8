use Rattle.std.proofs.Common.{◌≡◌, length}
use Rattle.uc_check.specs.Clauses.{equation_of}
use Rattle.uc_table.proofs.Assignments.{HoldBefore}
use Rattle.uc_table.proofs.checking.assignment_against.Given as goal

abbrev pub invariant-loop-place : goal.invariant-loop-place
invariant-loop-place l = (length l.values ≡ length l.initial.values) × (length l.stack ≡ length l.initial.stack) × HoldBefore l.table l.clause.positive (equation_of l.clause) l.place
