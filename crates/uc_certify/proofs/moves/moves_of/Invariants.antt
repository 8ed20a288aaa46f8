use Rattle.uc_certify.proofs.MadeMoves.{Turning}
use Rattle.uc_certify.proofs.moves.moves_of.Given as goal

abbrev pub invariant-loop-step : goal.invariant-loop-step
invariant-loop-step l = Turning l.fn.chain.start l.steps l.before l.step-index l.moves.items
