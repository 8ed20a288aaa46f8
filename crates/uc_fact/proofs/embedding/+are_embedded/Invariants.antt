use Rattle.uc_fact.proofs.embedding.+are_embedded.Given as goal

abbrev pub decreases-are_embedded : goal.decreases-are_embedded
decreases-are_embedded l = l.n
