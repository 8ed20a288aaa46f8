use Rattle.std.proofs.Common.{refl, arith}
use Rattle.uc_answer.proofs.TraceTexts.{one_more_share, all_shares_told}
use Rattle.uc_answer.proofs.trace_lines.share_lines.Goals as goal

pub loop-worker-preserved : goal.loop-worker-preserved
loop-worker-preserved c = record {
  begun = rw c.in_ok-push.ensures.ok (one_more_share c.args.shares.now c.loop-worker.worker c.loop-worker.lines _ _ c.in_ok-share_line.field-0 (omega arith) refl c.in_ok-share_line.ensures c.loop-worker.invariant.begun);
}

pub returns : goal.returns
returns c = all_shares_told c.args.shares.now c.loop-worker.worker c.loop-worker.lines (omega arith) c.loop-worker.invariant.begun
