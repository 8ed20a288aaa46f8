use Rattle.std.proofs.Common.{drop}
use Rattle.uc_answer.specs.ChainLines.{ArePrintable}
use Rattle.uc_answer.proofs.ChainLines.{Begun}
use Rattle.uc_answer.proofs.chaining.step_lines.Given as goal

abbrev pub invariant-loop-step : goal.invariant-loop-step
invariant-loop-step l = record {
  begun : Begun l.symbols l.start l.steps l.step-index l.from l.lines;
  printable : ArePrintable l.symbols l.from (drop l.step-index l.steps);
}
