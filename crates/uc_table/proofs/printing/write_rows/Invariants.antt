use Rattle.std.proofs.Common.{◌≡◌, ◌++◌, drop}
use Rattle.uc_table.specs.Printing.{rows_text}
use Rattle.uc_table.proofs.printing.write_rows.Given as goal

abbrev pub invariant-loop-number : goal.invariant-loop-number
invariant-loop-number l = l.out ++ rows_text l.symbols (drop l.number l.fs) (drop l.number l.rows) ≡ l.initial.out ++ rows_text l.symbols l.fs l.rows
