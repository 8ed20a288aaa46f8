use Rattle.std.proofs.Common.{◌≡◌, ◌++◌, drop}
use Rattle.uc_kbo.specs.Faults.{weighed}
use Rattle.uc_kbo.proofs.table.weigh.Given as goal

abbrev pub invariant-loop-i : goal.invariant-loop-i
invariant-loop-i l = l.entries.items ++ weighed l.symbols (drop l.i l.precedence) (drop l.i l.weights) ≡ weighed l.symbols l.precedence l.weights
