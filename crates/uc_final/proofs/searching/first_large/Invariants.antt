use Rattle.std.proofs.Common.{◌≡◌, drop}
use Rattle.uc_machine.specs.Finals.{first_large}
use Rattle.uc_final.proofs.searching.first_large.Given as goal

abbrev pub invariant-loop-formed : goal.invariant-loop-formed
invariant-loop-formed l = first_large l.overlaps ≡ first_large (drop l.formed-index l.overlaps)
