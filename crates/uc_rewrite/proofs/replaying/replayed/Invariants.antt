use Rattle.std.proofs.Common.{drop}
use Rattle.uc_rewrite.proofs.Replays.{Reached}
use Rattle.uc_rewrite.proofs.replaying.replayed.Given as goal

abbrev pub invariant-loop-step : goal.invariant-loop-step
invariant-loop-step l = Reached l.axioms l.facts l.start l.steps l.before (drop l.step-index l.steps)
