use Rattle.std.proofs.Common.{◌≡◌, ◌++◌, take}
use Rattle.uc_certificate.specs.Printing.{joins_text}
use Rattle.uc_certificate.proofs.printing.write_joins.Given as goal

abbrev pub invariant-loop-join : goal.invariant-loop-join
invariant-loop-join l = (l.out ≡ l.initial.out ++ joins_text l.symbols (take l.join-index l.joins))
