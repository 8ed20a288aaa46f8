use Rattle.uc_unify.proofs.Solving.{Solving}
use Rattle.uc_unify.proofs.unification.solution.Given as goal

abbrev pub invariant-loop-place : goal.invariant-loop-place
invariant-loop-place l = Solving l.nodes l.classes l.place l.subst
