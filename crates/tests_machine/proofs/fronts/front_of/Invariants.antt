use Rattle.std.proofs.Common.{◌≡◌, length}
use Rattle.uc_shelf.specs.Entries.{born}
use Rattle.uc_shelf.specs.Fronts.{IsOf}
use Rattle.tests_machine.proofs.fronts.front_of.Given as goal

abbrev pub invariant-loop-sides : goal.invariant-loop-sides
invariant-loop-sides g l = IsOf l.shelf l.front × (length (born l.front.entries) ≡ l.sides-index)
