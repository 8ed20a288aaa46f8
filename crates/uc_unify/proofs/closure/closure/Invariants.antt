use Rattle.uc_unify.specs.Closure.{left_of}
use Rattle.uc_unify.proofs.Closing.{Joining}
use Rattle.uc_unify.proofs.closure.closure.Given as goal

abbrev pub invariant-loop-p : goal.invariant-loop-p
invariant-loop-p l = Joining l.nodes l.second l.parents.items l.heads.items l.pairs.items

abbrev pub decreases-loop-p : goal.decreases-loop-p
decreases-loop-p l = left_of l.parents.items l.pairs.items
