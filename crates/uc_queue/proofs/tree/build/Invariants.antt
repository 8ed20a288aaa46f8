use Rattle.uc_queue.proofs.tree.build.Given as goal
use Rattle.uc_queue.proofs.Climbs.{IsBuilt}

abbrev pub invariant-loop-node : goal.invariant-loop-node
invariant-loop-node l = IsBuilt l.key l.entries l.fn.winners l.winners l.node

abbrev pub decreases-loop-node : goal.decreases-loop-node
decreases-loop-node l = l.node
