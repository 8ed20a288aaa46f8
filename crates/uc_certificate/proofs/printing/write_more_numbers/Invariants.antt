use Rattle.std.proofs.Common.{◌≡◌, ◌++◌, codes, decimal, take}
use Rattle.uc_tstp.specs.Printing.{further}
use Rattle.uc_certificate.proofs.printing.write_more_numbers.Given as goal

abbrev pub invariant-loop-number : goal.invariant-loop-number
invariant-loop-number l = (l.out ≡ l.initial.out ++ further (codes ",") decimal (take l.number-index l.numbers))
