use Rattle.std.proofs.Common.{◌≡◌, ◌++◌, drop}
use Rattle.uc_problem.specs.Holds.{numbers_of}
use Rattle.uc_problem.proofs.assembly.numbers_of.Given as goal

abbrev pub invariant-loop-number : goal.invariant-loop-number
invariant-loop-number l = l.numbers ++ numbers_of l.positive l.number (drop l.number l.clauses) ≡ numbers_of l.positive 0 l.clauses
