use Rattle.std.proofs.Common.{◌≡◌, ◌++◌, codes, take}
use Rattle.uc_tstp.specs.Printing.{further, line_name, names_in}
use Rattle.uc_tstp.proofs.printing.write_more_names.Given as goal

abbrev pub invariant-loop-number : goal.invariant-loop-number
invariant-loop-number l = (l.out ≡ l.initial.out ++ further (codes ", ") (line_name (names_in l.lines)) (take l.number-index l.numbers))
