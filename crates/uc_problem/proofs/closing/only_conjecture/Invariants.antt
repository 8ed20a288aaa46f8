use Rattle.uc_problem.proofs.SingleConjecture.{HasFound}
use Rattle.uc_problem.proofs.closing.only_conjecture.Given as goal

abbrev pub invariant-loop-number : goal.invariant-loop-number
invariant-loop-number l = HasFound l.flats l.number l.first
