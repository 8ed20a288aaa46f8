use Rattle.std.proofs.Common.{◌≡◌, ◌++◌, drop}
use Rattle.uc_tstp.specs.Printing.{lines_text, names_in}
use Rattle.uc_tstp.proofs.printing.write_lines.Given as goal

abbrev pub invariant-loop-number : goal.invariant-loop-number
invariant-loop-number l = (l.out ++ lines_text l.symbols (names_in l.lines) (drop l.number l.file_of) (drop l.number l.lines) ≡ l.initial.out ++ lines_text l.symbols (names_in l.lines) l.file_of l.lines)
