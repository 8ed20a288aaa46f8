use Rattle.uc_unify.proofs.Ending.{ArgumentsEnd}
use Rattle.uc_unify.proofs.ends.end_of_arguments.Given as goal

abbrev pub invariant-loop : goal.invariant-loop
invariant-loop l = ArgumentsEnd l.nodes l.place l.count l.counter l.end
