use Rattle.uc_term.proofs.Written.{Passed}
use Rattle.uc_term.proofs.position.behind.Given as goal

abbrev pub invariant-loop-i : goal.invariant-loop-i
invariant-loop-i l = Passed l.list l.from l._i l.place
