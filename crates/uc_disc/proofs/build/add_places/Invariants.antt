use Rattle.std.proofs.Common.{◌≡◌, ◌-◌, ◌++◌, take, drop}
use Rattle.uc_disc.specs.Building.{stretch}
use Rattle.uc_disc.proofs.build.add_places.Given as goal

abbrev pub invariant-loop-depth : goal.invariant-loop-depth
invariant-loop-depth l = l.places.items ≡ l.initial.places.items ++ stretch l.from (take (l.depth - l.from) (drop l.from l.labels))
