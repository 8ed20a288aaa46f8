use Rattle.std.proofs.Common.{◌≡◌, take}
use Rattle.uc_shelf.specs.Segments.{values_of}
use Rattle.uc_shelf.proofs.front.Front.copy.Given as goal

abbrev pub invariant-loop-segment : goal.invariant-loop-segment
invariant-loop-segment l = values_of l.segments.items ≡ values_of (take l.segment-index l.segment-items)
