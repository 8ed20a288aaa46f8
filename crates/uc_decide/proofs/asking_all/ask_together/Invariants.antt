use Rattle.std.proofs.Common.{◌-◌}
use Rattle.std.specs.Vec.Iter.{into_iter_items}
use Rattle.uc_fact.specs.Live.{numbered}
use Rattle.uc_decide.proofs.Shares.{Lacks, remaining}
use Rattle.uc_decide.proofs.asking_all.ask_together.Given as goal

abbrev pub invariant-loop-hand : goal.invariant-loop-hand
invariant-loop-hand g l = Lacks into_iter_items (g.O.Order.meaning l.order) (numbered l.system.facts) l.fn.steps (l.fn.workers - 1) l.questions l.hands.items l.replies

abbrev pub decreases-loop-hand : goal.decreases-loop-hand
decreases-loop-hand g l = remaining into_iter_items l.hands.items
