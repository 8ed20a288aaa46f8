use Rattle.std.proofs.Common.{◌-◌, length}
use Rattle.uc_fact.specs.Live.{numbered}
use Rattle.uc_decide.proofs.Shares.{Shares}
use Rattle.uc_decide.proofs.asking_all.hand_at.Given as goal

abbrev pub invariant-loop-ticket : goal.invariant-loop-ticket
invariant-loop-ticket g l = Shares (g.O.Order.meaning l.order) (numbered l.system.facts) l.steps (l.workers - 1) l.place l.questions l.ticket l.replies

abbrev pub decreases-loop-ticket : goal.decreases-loop-ticket
decreases-loop-ticket g l = length l.questions - l.ticket
