use Rattle.std.proofs.Common.{◌≡◌, ◌≤◌, length, drop}
use Rattle.uc_kbo.specs.Weights.{least_constant}
use Rattle.uc_kbo.proofs.table.least_of.Given as goal

abbrev pub invariant-loop-i : goal.invariant-loop-i
invariant-loop-i l = (l.i ≤ length l.entries) × (l.best ≡ least_constant (drop l.i l.entries))

abbrev pub decreases-loop-i : goal.decreases-loop-i
decreases-loop-i l = l.i
