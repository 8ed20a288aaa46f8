use Rattle.std.proofs.Common.{◌≤◌, length, take}
use Rattle.uc_shelf.specs.Entries.{born}
use Rattle.uc_shelf.specs.Segments.{entries_of}
use Rattle.uc_shelf.proofs.front.Front.home.Given as goal

abbrev pub invariant-loop-segment : goal.invariant-loop-segment
invariant-loop-segment l = length (born (entries_of (take l.segment-index l.segment-items))) ≤ l.number
