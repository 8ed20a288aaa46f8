use Rattle.std.proofs.Common.{◌≡◌, take}
use Rattle.uc_shelf.specs.Sights.{entries_at}
use Rattle.uc_shelf.proofs.row.agree_in_row.Given as goal

abbrev pub invariant-loop-k : goal.invariant-loop-k
invariant-loop-k l = entries_at (take l.k l.a) ≡ entries_at (take l.k l.b)
