use Rattle.std.proofs.Common.{◌≡◌, take}
use Rattle.uc_system.specs.Symbols.{weights_in}
use Rattle.uc_system.proofs.reading.weights_of.Given as goal

abbrev pub invariant-loop-s : goal.invariant-loop-s
invariant-loop-s l = l.weights ≡ weights_in (take l.s-index l.ranked)
