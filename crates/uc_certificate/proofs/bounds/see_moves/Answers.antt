use Rattle.std.proofs.Common.{arith, subst}
use Rattle.uc_certificate.specs.Bounds.{IsBoundedMove}
use Rattle.uc_tstp.proofs.Seen.{one_more, all_seen}
use Rattle.uc_certificate.proofs.bounds.see_moves.Goals as goal

pub loop-step-preserved : goal.loop-step-preserved
loop-step-preserved c = one_more IsBoundedMove c.args.moves.now c.loop-step.step-index c.step-item.result c.loop-step-test.true c.loop-step.invariant (subst IsBoundedMove c.step-item.is c.see_move.ensures)

pub returns : goal.returns
returns c = all_seen IsBoundedMove c.args.moves.now c.loop-step.step-index (omega arith) c.loop-step.invariant
