use Rattle.std.proofs.Common.{◌≡◌, ◌++◌, drop, map, Some}
use Rattle.uc_problem.proofs.encoding.clause_numbers.Given as goal

abbrev pub invariant-loop-number : goal.invariant-loop-number
invariant-loop-number l = l.clauses ++ map Some (drop l.number-index l.numbers) ≡ map Some l.numbers
