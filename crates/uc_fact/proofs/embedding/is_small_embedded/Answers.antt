use Rattle.uc_fact.proofs.Embedded.{unmarked}
use Rattle.uc_fact.proofs.embedding.is_small_embedded.Goals as goal

pub mark_rows-requires-clause-marked : goal.mark_rows-requires-clause-marked
mark_rows-requires-clause-marked c = unmarked c.args.s.now c.args.t.now
