use Rattle.std.proofs.Common.{arith}
use Rattle.uc_answer.proofs.ChainLines.{one_more, all_told, next_printable}
use Rattle.uc_answer.proofs.chaining.step_lines.Goals as goal

pub loop-step-preserved : goal.loop-step-preserved
loop-step-preserved c = record {
  begun = rw c.in_ok-push.ensures.ok (one_more c.args.symbols.now c.args.start.now c.args.steps.now c.loop-step.step-index c.loop-step.from.now c.loop-step.lines c.step-item.result c.in_ok-step_line.field-0 (omega arith) c.step-item.is c.in_ok-step_line.ensures c.loop-step.invariant.begun);
  printable = (next_printable c.args.symbols.now c.args.start.now c.args.steps.now c.loop-step.step-index c.loop-step.from.now c.step-item.result (omega arith) c.step-item.is c.loop-step.invariant.printable).2;
}

pub returns : goal.returns
returns c = all_told c.args.symbols.now c.args.start.now c.args.steps.now c.loop-step.step-index c.loop-step.from.now c.loop-step.lines (omega arith) c.loop-step.invariant.begun
