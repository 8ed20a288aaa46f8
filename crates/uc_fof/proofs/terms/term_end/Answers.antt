use Rattle.uc_fof.proofs.terms.term_end.Goals as goal

pub ended-requires-clause-reads : goal.ended-requires-clause-reads
ended-requires-clause-reads c = (c.in-Ok.ensures.reads.parse, c.in-Ok.ensures.reads.reads)

pub returns-in-Ok : goal.returns-in-Ok
returns-in-Ok c = c.ended.ensures c.args.conjecture
