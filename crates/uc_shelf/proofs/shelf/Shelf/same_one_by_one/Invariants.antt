use Rattle.std.proofs.Common.{◌≡◌, length, take}
use Rattle.uc_shelf.proofs.shelf.Shelf.same_one_by_one.Given as goal

abbrev pub invariant-loop-k : goal.invariant-loop-k
invariant-loop-k l = record {
  long : length l.a.entries ≡ length l.b.entries;
  same : take l.k l.a.entries ≡ take l.k l.b.entries;
}
