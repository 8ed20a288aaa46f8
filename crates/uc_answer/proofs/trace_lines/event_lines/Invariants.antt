use Rattle.uc_answer.proofs.TraceTexts.{BegunTrace}
use Rattle.uc_answer.proofs.trace_lines.event_lines.Given as goal

abbrev pub invariant-loop-number : goal.invariant-loop-number
invariant-loop-number l = record {
  begun : BegunTrace l.history l.number l.lines;
}
