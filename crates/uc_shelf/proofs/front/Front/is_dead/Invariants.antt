use Rattle.std.proofs.Common.{◌≡◌, false, take}
use Rattle.uc_shelf.specs.Entries.{is_dead}
use Rattle.uc_shelf.specs.Segments.{entries_of}
use Rattle.uc_shelf.proofs.front.Front.is_dead.Given as goal

abbrev pub invariant-loop-segment : goal.invariant-loop-segment
invariant-loop-segment l = is_dead (entries_of (take l.segment-index l.segment-items)) l.number ≡ false
