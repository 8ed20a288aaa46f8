use Rattle.std.proofs.Common.{◌≡◌, length, take}
use Rattle.uc_table.specs.Against.{KeepAll, equations_of}
use Rattle.uc_table.proofs.checking.first_against.Given as goal

abbrev pub invariant-loop-sourced : goal.invariant-loop-sourced
invariant-loop-sourced l = (l.number ≡ length (equations_of l.positive (take l.sourced-index l.clauses))) × KeepAll l.table l.positive (equations_of l.positive (take l.sourced-index l.clauses))
