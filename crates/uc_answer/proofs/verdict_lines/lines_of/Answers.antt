use Rattle.std.proofs.Common.{◌++◌, sym, ap, ◌∙◌}
use Rattle.uc_answer.proofs.TextLines.{one_more_line, all_lines}
use Rattle.uc_answer.proofs.verdict_lines.lines_of.Goals as goal

pub loop-line-preserved : goal.loop-line-preserved
loop-line-preserved c = record {
  begun = rw c.in_ok-push.ensures.ok (one_more_line c.loop-line.lines c.in_ok-from_bytes.field-0 c.loop-line.line-iterator.rest.now c.next.new.self.rest.now c.args.text.now c.loop-line.invariant.begun (c.in-Some.ensures.steps.0 ∙ ap (λ t. t ++ c.next.new.self.rest.now) (sym c.in_ok-from_bytes.ensures)));
}

pub returns : goal.returns
returns c = all_lines c.loop-line.lines c.loop-line.line-iterator.rest.now c.args.text.now c.loop-line.invariant.begun c.in-None.ensures.steps.0
