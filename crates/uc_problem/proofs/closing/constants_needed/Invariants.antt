use Rattle.std.proofs.Common.{◌≡◌, drop}
use Rattle.uc_problem.specs.Conjecture.{constants_needed}
use Rattle.uc_problem.proofs.closing.constants_needed.Given as goal

abbrev pub invariant-loop-flat : goal.invariant-loop-flat
invariant-loop-flat l = constants_needed l.flats ≡ constants_needed (drop l.flat-index l.flats)
