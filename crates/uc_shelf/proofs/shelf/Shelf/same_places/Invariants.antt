use Rattle.std.proofs.Common.{◌≡◌, length, take}
use Rattle.uc_shelf.specs.Segments.{entries_of}
use Rattle.uc_shelf.proofs.shelf.Shelf.same_places.Given as goal

abbrev pub invariant-loop-k : goal.invariant-loop-k
invariant-loop-k l = record {
  long : length l.a ≡ length l.b;
  same : entries_of (take l.k l.a) ≡ entries_of (take l.k l.b);
}
