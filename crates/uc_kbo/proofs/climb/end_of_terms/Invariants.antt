use Rattle.std.proofs.Common.{◌+◌, ◌≤◌, ◌-◌, length, drop, take}
use Rattle.uc_term.specs.Tree.{nodes_all, of_list}
use Rattle.uc_term.specs.Flat.{spelled}
use Rattle.uc_term.proofs.Ahead.{Ahead}
use Rattle.uc_kbo.proofs.climb.end_of_terms.Given as goal

abbrev pub invariant-loop-pending : goal.invariant-loop-pending
invariant-loop-pending l =
    let end = l.from + nodes_all (of_list (take l.count (spelled (drop l.from l.list)))) in
    record { before_end : l.end ≤ end; in_list : end ≤ length l.list; ahead : Ahead (drop l.end l.list) l.pending (end - l.end) }

abbrev pub decreases-loop-pending : goal.decreases-loop-pending
decreases-loop-pending l = length l.list - l.end
