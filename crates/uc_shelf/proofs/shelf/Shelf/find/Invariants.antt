use Rattle.std.proofs.Common.{◌≡◌, ◌+◌, length, take}
use Rattle.uc_shelf.specs.Segments.{entries_of}
use Rattle.uc_shelf.proofs.shelf.Shelf.find.Given as goal

abbrev pub invariant-loop-i : goal.invariant-loop-i
invariant-loop-i l = l.fn.k ≡ length (entries_of (take l.i l.segments)) + l.left
