use Rattle.uc_task.proofs.Meetings.{KillsSoFar}
use Rattle.uc_task.proofs.meet.kills.Given as goal

abbrev pub invariant-loop-fact : goal.invariant-loop-fact
invariant-loop-fact g l = KillsSoFar (g.O.Order.meaning l.order) l.number l.own l.facts l.fact-index l.list
