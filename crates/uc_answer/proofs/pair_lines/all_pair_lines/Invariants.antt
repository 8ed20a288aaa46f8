use Rattle.uc_answer.proofs.PairLines.{BegunOuter}
use Rattle.uc_answer.proofs.pair_lines.all_pair_lines.Given as goal

abbrev pub invariant-loop-outer : goal.invariant-loop-outer
invariant-loop-outer g l = record {
  begun : BegunOuter l.symbols (g.O.Order.meaning l.order) l.equations l.outer l.lines;
}
