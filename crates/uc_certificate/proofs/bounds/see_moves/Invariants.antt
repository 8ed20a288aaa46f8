use Rattle.std.proofs.Common.{take}
use Rattle.std.specs.List.{AllByRecursion}
use Rattle.uc_certificate.specs.Bounds.{IsBoundedMove}
use Rattle.uc_certificate.proofs.bounds.see_moves.Given as goal

abbrev pub invariant-loop-step : goal.invariant-loop-step
invariant-loop-step l = AllByRecursion IsBoundedMove (take l.step-index l.moves)
