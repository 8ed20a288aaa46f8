use Rattle.uc_unify.proofs.Sizing.{Summing}
use Rattle.uc_unify.proofs.sizes.sum_of_sizes.Given as goal

abbrev pub invariant-loop : goal.invariant-loop
invariant-loop l = Summing l.nodes l.classes l.fn.place l.count l.counter l.size l.place
