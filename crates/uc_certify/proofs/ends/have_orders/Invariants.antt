use Rattle.uc_certify.proofs.EndsTested.{SameFirst}
use Rattle.uc_certify.proofs.ends.have_orders.Given as goal

abbrev pub invariant-loop-k : goal.invariant-loop-k
invariant-loop-k l = SameFirst l.cases l.orders l.k
