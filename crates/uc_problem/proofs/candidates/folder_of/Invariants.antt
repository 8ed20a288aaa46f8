use Rattle.std.proofs.Common.{◌≡◌, ◌≤◌, length, drop, false}
use Rattle.std.specs.List.{list_any}
use Rattle.uc_problem.proofs.Folders.{slash}
use Rattle.uc_problem.proofs.candidates.folder_of.Given as goal

abbrev pub invariant-loop-end : goal.invariant-loop-end
invariant-loop-end l = record { within : l.end ≤ length l.name; none : list_any slash (drop l.end l.name) ≡ false }

abbrev pub decreases-loop-end : goal.decreases-loop-end
decreases-loop-end l = l.end
