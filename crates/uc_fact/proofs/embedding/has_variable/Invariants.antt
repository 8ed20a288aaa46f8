use Rattle.uc_fact.proofs.embedding.has_variable.Given as goal

abbrev pub invariant-loop-node : goal.invariant-loop-node
invariant-loop-node l = Unit {0}
