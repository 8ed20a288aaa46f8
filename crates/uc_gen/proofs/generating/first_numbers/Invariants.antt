use Rattle.std.proofs.Common.{◌≡◌}
use Rattle.uc_gen.specs.Generated.{first_numbers}
use Rattle.uc_gen.proofs.generating.first_numbers.Given as goal

abbrev pub invariant-loop-number : goal.invariant-loop-number
invariant-loop-number l = l.numbers ≡ first_numbers l.number
