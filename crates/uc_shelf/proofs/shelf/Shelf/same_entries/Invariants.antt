use Rattle.std.proofs.Common.{◌≡◌, take}
use Rattle.uc_shelf.proofs.shelf.Shelf.same_entries.Given as goal

abbrev pub invariant-loop-k : goal.invariant-loop-k
invariant-loop-k l = take l.k l.a.entries ≡ take l.k l.b.entries
