use Rattle.std.proofs.Common.{◌≡◌, ◌++◌, drop}
use Rattle.uc_system.specs.Printing.{weighed_text}
use Rattle.uc_system.proofs.printing.write_weighed.Given as goal

abbrev pub invariant-loop-number : goal.invariant-loop-number
invariant-loop-number l = (l.out ++ weighed_text l.symbols (drop l.number l.precedence) (drop l.number l.weights) ≡ l.initial.out ++ weighed_text l.symbols l.precedence l.weights)
