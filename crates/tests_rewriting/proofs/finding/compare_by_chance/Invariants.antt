use Rattle.uc_shelf.specs.Fronts.{IsOf}
use Rattle.tests_rewriting.proofs.finding.compare_by_chance.Given as goal

abbrev pub invariant-loop : goal.invariant-loop
invariant-loop g l = IsOf l.shelf-inside.slots l.front
