use Rattle.uc_shelf.specs.Fronts.{IsOf}
use Rattle.bench_shelf.proofs.facts.fill.Given as goal

abbrev pub invariant-loop-number : goal.invariant-loop-number
invariant-loop-number g l = IsOf l.shelf l.front
