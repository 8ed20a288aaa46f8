use Rattle.uc_term.proofs.Upwards.{Climbing}
use Rattle.uc_term.proofs.term.Term.path.Given as goal

abbrev pub invariant-loop-place : goal.invariant-loop-place
invariant-loop-place l = Climbing l.list l.fn.pos.0 l.place l.between l.upwards.items

abbrev pub decreases-loop-place : goal.decreases-loop-place
decreases-loop-place l = l.place
