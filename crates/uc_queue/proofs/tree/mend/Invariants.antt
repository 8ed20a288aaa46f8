use Rattle.uc_queue.proofs.tree.mend.Given as goal
use Rattle.uc_queue.proofs.Climbs.{IsMended}

abbrev pub invariant-loop-node : goal.invariant-loop-node
invariant-loop-node l = IsMended l.key l.entries l.fn.winners l.winners l.slot l.node

abbrev pub decreases-loop-node : goal.decreases-loop-node
decreases-loop-node l = l.node
