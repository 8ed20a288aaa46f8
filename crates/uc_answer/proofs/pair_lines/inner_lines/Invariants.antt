use Rattle.uc_answer.proofs.PairLines.{BegunInner}
use Rattle.uc_answer.proofs.pair_lines.inner_lines.Given as goal

abbrev pub invariant-loop-inner : goal.invariant-loop-inner
invariant-loop-inner g l = record {
  begun : BegunInner l.symbols (g.O.Order.meaning l.order) l.outer l.a l.equations l.inner l.lines;
}
