use Rattle.uc_answer.proofs.TraceTexts.{BegunShares}
use Rattle.uc_answer.proofs.trace_lines.share_lines.Given as goal

abbrev pub invariant-loop-worker : goal.invariant-loop-worker
invariant-loop-worker l = record {
  begun : BegunShares l.shares l.worker l.lines;
}
