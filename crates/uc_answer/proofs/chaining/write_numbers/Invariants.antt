use Rattle.std.proofs.Common.{◌≡◌, ◌++◌, decimal, take}
use Rattle.uc_tstp.specs.Printing.{further}
use Rattle.uc_answer.proofs.chaining.write_numbers.Given as goal

abbrev pub invariant-loop-number : goal.invariant-loop-number
invariant-loop-number l = (l.out ≡ l.initial.out ++ further l.mark decimal (take l.number-index l.numbers))
