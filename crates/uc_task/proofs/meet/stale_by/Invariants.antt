use Rattle.uc_task.proofs.Meetings.{NoneSoFar}
use Rattle.uc_task.proofs.meet.stale_by.Given as goal

abbrev pub invariant-loop-fact : goal.invariant-loop-fact
invariant-loop-fact g l = NoneSoFar (g.O.Order.meaning l.order) l.number l.own l.facts l.fact-index
