use Rattle.std.proofs.Common.{◌≡◌, take}
use Rattle.uc_system.specs.Symbols.{symbols_in}
use Rattle.uc_system.proofs.reading.spec_of.Given as goal

abbrev pub invariant-loop-s : goal.invariant-loop-s
invariant-loop-s l = l.precedence ≡ symbols_in (take l.s-index l.ranked)
