use Rattle.std.proofs.Common.{◌≡◌, ℕ, ◌+◌, ◌<◌}
use Rattle.std.specs.Prelude.{Some, slice_get}
use Rattle.boxcar.specs.Table.{Where}
use Rattle.uc_shelf.specs.declared.entry.Entry.{Entry}
use Rattle.uc_shelf.proofs.row.start_of.Given as goal

abbrev pub invariant-loop-k : goal.invariant-loop-k
invariant-loop-k l = (j : ℕ) (p : Where Entry) → j < l.k → slice_get l.places j ≡ Some p → p.index ≡ l.start + j
