use Rattle.std.proofs.Common.{◌≡◌, ◌++◌, drop}
use Rattle.uc_table.specs.Printing.{spaced}
use Rattle.uc_table.proofs.printing.write_spaced.Given as goal

abbrev pub invariant-loop-value : goal.invariant-loop-value
invariant-loop-value l = l.out ++ spaced (drop l.value-index l.values) ≡ l.initial.out ++ spaced l.values
