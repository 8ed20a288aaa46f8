use Rattle.std.proofs.Common.{refl, arith}
use Rattle.uc_answer.proofs.PairLines.{one_more_pair, all_pairs_told}
use Rattle.uc_answer.proofs.pair_lines.lines_of.Goals as goal

pub line_of-requires-clause-overlaps : goal.line_of-requires-clause-overlaps
line_of-requires-clause-overlaps c = (c.requires.overlaps c.loop-formed.formed-index _ (omega arith)).overlaps

pub loop-formed-preserved : goal.loop-formed-preserved
loop-formed-preserved c = record {
  begun = rw c.in_ok-push.ensures.ok (one_more_pair c.args.symbols.now c.args.a.now c.args.b.now c.args.list.now c.loop-formed.formed-index c.loop-formed.lines _ _ _ (omega arith) refl c.in_ok-line_of.ensures c.loop-formed.invariant.begun);
}

pub returns : goal.returns
returns c = all_pairs_told c.args.symbols.now c.args.a.now c.args.b.now c.args.list.now c.loop-formed.formed-index c.loop-formed.lines (omega arith) c.loop-formed.invariant.begun
