use Rattle.std.proofs.Common.{◌≡◌, drop}
use Rattle.uc_problem.specs.Marks.{first_large}
use Rattle.uc_problem.proofs.marking.first_too_large.Given as goal

abbrev pub invariant-loop-number : goal.invariant-loop-number
invariant-loop-number l = first_large l.clauses l.goals ≡ first_large l.clauses (drop l.number-index l.goals)
