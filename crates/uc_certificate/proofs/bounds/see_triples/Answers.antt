use Rattle.std.proofs.Common.{arith}
use Rattle.uc_certificate.specs.Bounds.{IsBoundedTriple}
use Rattle.uc_tstp.proofs.Seen.{one_more, all_seen}
use Rattle.uc_certificate.proofs.bounds.see_triples.Goals as goal

pub loop-triple-preserved : goal.loop-triple-preserved
loop-triple-preserved c = one_more IsBoundedTriple c.args.triples.now c.loop-triple.triple-index _ c.loop-triple-test.true c.loop-triple.invariant c.see_triple.ensures

pub returns : goal.returns
returns c = all_seen IsBoundedTriple c.args.triples.now c.loop-triple.triple-index (omega arith) c.loop-triple.invariant
