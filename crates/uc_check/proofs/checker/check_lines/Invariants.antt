use Rattle.uc_check.specs.Checks.{AreRightBefore}
use Rattle.uc_check.proofs.checker.check_lines.Given as goal

abbrev pub invariant-loop-number : goal.invariant-loop-number
invariant-loop-number l = AreRightBefore l.clauses l.marks l.lines l.number
