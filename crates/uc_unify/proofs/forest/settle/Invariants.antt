use Rattle.uc_unify.proofs.Linking.{Settling}
use Rattle.uc_unify.proofs.forest.settle.Given as goal

abbrev pub invariant-loop-place : goal.invariant-loop-place
invariant-loop-place l = Settling l.parents l.initial.heads.items l.heads.items l.place
