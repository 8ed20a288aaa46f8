use Rattle.uc_answer.proofs.PairLines.{BegunPairs}
use Rattle.uc_answer.proofs.pair_lines.lines_of.Given as goal

abbrev pub invariant-loop-formed : goal.invariant-loop-formed
invariant-loop-formed l = record {
  begun : BegunPairs l.symbols l.a l.b l.list l.formed-index l.lines;
}
