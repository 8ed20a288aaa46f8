use Rattle.uc_fact.proofs.embedding.+is_in_one.Given as goal

abbrev pub decreases-is_in_one : goal.decreases-is_in_one
decreases-is_in_one l = l.n
