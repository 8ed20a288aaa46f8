use Rattle.std.proofs.Common.{◌≡◌, ◌++◌, take}
use Rattle.uc_clause.specs.Names.{escaped}
use Rattle.uc_clause.proofs.printer.write_quoted.Given as goal

abbrev pub invariant-loop-b : goal.invariant-loop-b
invariant-loop-b l = (l.out ≡ l.initial.out ++ escaped (take l.b-index l.word))
