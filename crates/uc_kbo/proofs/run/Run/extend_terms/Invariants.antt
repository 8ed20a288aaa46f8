use Rattle.std.proofs.Common.{◌≡◌, ◌+◌, ◌≤◌, ◌-◌, length, drop, take}
use Rattle.uc_term.specs.Tree.{nodes_all, of_list}
use Rattle.uc_term.specs.Flat.{spelled}
use Rattle.uc_term.proofs.Ahead.{Ahead}
use Rattle.uc_kbo.specs.Runs.{IsRun, table_weighing, slot_by, read_by}
use Rattle.uc_kbo.proofs.run.Run.extend_terms.Given as goal

abbrev pub invariant-loop-pending : goal.invariant-loop-pending
invariant-loop-pending l =
    let last = l.fn.self.to + nodes_all (of_list (take l.terms (spelled (drop l.fn.self.to l.list)))) in
    record {
      run : IsRun (table_weighing l.w.w0 l.w.table.items) (slot_by l.under l.classes) (read_by l.under l.classes l.list) (record l.self { to = l.end });
      from : l.self.from ≡ l.fn.self.from;
      before_end : l.end ≤ last;
      in_list : last ≤ length l.list;
      ahead : Ahead (drop l.end l.list) l.pending (last - l.end);
    }

abbrev pub decreases-loop-pending : goal.decreases-loop-pending
decreases-loop-pending l = length l.list - l.end
