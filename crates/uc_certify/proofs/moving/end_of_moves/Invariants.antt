use Rattle.std.proofs.Common.{drop}
use Rattle.uc_certify.specs.Knowing.{HasKnown}
use Rattle.uc_certify.proofs.MovesTested.{Reached}
use Rattle.uc_certify.proofs.moving.end_of_moves.Given as goal

abbrev pub invariant-loop-step : goal.invariant-loop-step
invariant-loop-step g l =
    Reached (g.C.Comparison.meaning l.comparison) l.rules.facts.now (g.C.Comparison.greater l.comparison) (g.C.Comparison.knows l.comparison) l.start l.moves l.before (drop l.step-index l.moves) ×
    HasKnown (g.C.Comparison.knows l.comparison) l.before
