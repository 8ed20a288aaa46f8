use Rattle.uc_task.proofs.Meetings.{MeetsSoFar}
use Rattle.uc_task.proofs.meet.meetings.Given as goal

abbrev pub invariant-loop-fact : goal.invariant-loop-fact
invariant-loop-fact g l = MeetsSoFar (g.O.Order.meaning l.order) l.number l.own l.facts l.fact-index l.list
