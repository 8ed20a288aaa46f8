use Rattle.uc_term.proofs.Written.{Walked}
use Rattle.uc_term.proofs.term.Term.pos_of.Given as goal

abbrev pub invariant-loop-number : goal.invariant-loop-number
invariant-loop-number l = Walked l.fn.self l.path l.list l.place l.number-index
