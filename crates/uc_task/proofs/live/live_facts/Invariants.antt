use Rattle.uc_task.proofs.Fronts.{Listed}
use Rattle.uc_task.proofs.live.live_facts.Given as goal

abbrev pub invariant-loop-k : goal.invariant-loop-k
invariant-loop-k l = Listed l.front.entries l.k l.number l.list.items
