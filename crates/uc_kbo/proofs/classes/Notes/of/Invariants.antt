use Rattle.std.proofs.Common.{◌≤◌, drop, length}
use Rattle.uc_kbo.specs.Noted.{AreNoted}
use Rattle.uc_kbo.proofs.classes.Notes.of.Given as goal

abbrev pub invariant-loop-number : goal.invariant-loop-number
invariant-loop-number l = (l.number ≤ length l.list) × AreNoted (drop l.number l.list) l.number l.notes.firsts l.notes.numbers

abbrev pub decreases-loop-number : goal.decreases-loop-number
decreases-loop-number l = l.number
