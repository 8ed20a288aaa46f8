use Rattle.std.proofs.Common.{refl, arith}
use Rattle.uc_answer.proofs.TraceTexts.{one_more_event, all_events_told}
use Rattle.uc_answer.proofs.trace_lines.event_lines.Goals as goal

pub loop-number-preserved : goal.loop-number-preserved
loop-number-preserved c = record {
  begun = rw c.in_ok-push.ensures.ok (one_more_event c.args.history.now c.loop-number.number c.loop-number.lines _ _ c.in_ok-event_line.field-0 (omega arith) refl c.in_ok-event_line.ensures c.loop-number.invariant.begun);
}

pub returns : goal.returns
returns c = all_events_told c.args.history.now c.loop-number.number c.loop-number.lines (omega arith) c.loop-number.invariant.begun
