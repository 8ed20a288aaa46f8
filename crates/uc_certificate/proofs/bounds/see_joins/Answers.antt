use Rattle.std.proofs.Common.{arith, subst}
use Rattle.uc_certificate.specs.Bounds.{IsBoundedJoin}
use Rattle.uc_tstp.proofs.Seen.{one_more, all_seen}
use Rattle.uc_certificate.proofs.bounds.see_joins.Goals as goal

pub loop-join-preserved : goal.loop-join-preserved
loop-join-preserved c = one_more IsBoundedJoin c.args.joins.now c.loop-join.join-index c.join-item.result c.loop-join-test.true c.loop-join.invariant (subst IsBoundedJoin c.join-item.is c.see_join.ensures)

pub returns : goal.returns
returns c = all_seen IsBoundedJoin c.args.joins.now c.loop-join.join-index (omega arith) c.loop-join.invariant
