use Rattle.std.proofs.Common.{◌≡◌, ◌++◌, drop}
use Rattle.uc_system.specs.Printing.{bare_text}
use Rattle.uc_system.proofs.printing.write_bare.Given as goal

abbrev pub invariant-loop-symbol : goal.invariant-loop-symbol
invariant-loop-symbol l = (l.out ++ bare_text l.symbols (drop l.symbol-index l.precedence) ≡ l.initial.out ++ bare_text l.symbols l.precedence)
