use Rattle.std.proofs.Common.{◌≡◌, ◌++◌}
use Rattle.uc_answer.specs.Lines.{joined}
use Rattle.uc_answer.proofs.verdict_lines.lines_of.Given as goal

abbrev pub invariant-loop-line : goal.invariant-loop-line
invariant-loop-line l = record {
  begun : joined l.lines ++ l.line-iterator.rest.now ≡ l.text;
}
