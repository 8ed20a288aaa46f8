use Rattle.std.proofs.Common.{◌≡◌, take}
use Rattle.uc_machine.specs.Finals.{small_ones}
use Rattle.uc_final.proofs.selecting.small_origins.Given as goal

abbrev pub invariant-loop-formed : goal.invariant-loop-formed
invariant-loop-formed l = l.list.items ≡ small_ones (take l.formed-index l.overlaps)
