use Rattle.std.proofs.Common.{◌≡◌, take}
use Rattle.uc_shelf.specs.Sights.{entries_at, homes_of}
use Rattle.uc_shelf.specs.Segments.{entries_of, homes_in}
use Rattle.uc_shelf.proofs.front.places_of.Given as goal

abbrev pub invariant-loop-k : goal.invariant-loop-k
invariant-loop-k l = record {
  entries : entries_at l.places.items ≡ entries_of (take l.k l.segments);
  homes : homes_of l.places.items ≡ homes_in (take l.k l.segments);
}
