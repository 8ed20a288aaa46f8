use Rattle.std.proofs.Common.{◌+◌, ◌≤◌, ◌-◌, length, drop}
use Rattle.uc_term.specs.Tree.{nodes}
use Rattle.uc_term.specs.Flat.{tree_of}
use Rattle.uc_term.proofs.Ahead.{Ahead}
use Rattle.uc_term.proofs.term.end_of.Given as goal

abbrev pub invariant-loop-pending : goal.invariant-loop-pending
invariant-loop-pending l =
    let end = l.from + nodes (tree_of (drop l.from l.list)) in
    record { before_end : l.end ≤ end; ahead : Ahead (drop l.end l.list) l.pending (end - l.end) }

abbrev pub decreases-loop-pending : goal.decreases-loop-pending
decreases-loop-pending l = length l.list - l.end
