use Rattle.std.proofs.Common.{ℕ, Bool, drop}
use Rattle.uc_term.specs.Flat.{tree_of}
use Rattle.uc_kbo.specs.Kbo.{None}
use Rattle.uc_kbo.specs.Runs.{IsVerdict, table_weighing}
use Rattle.uc_kbo.specs.Balances.{is_asked, AsksFor, is_below}
use Rattle.uc_kbo.proofs.Asking.{rest}
use Rattle.uc_kbo.proofs.wide.compare_wide.Given as goal

abbrev pub invariant-loop-next : goal.invariant-loop-next
invariant-loop-next l = (asked : ℕ → Bool) → AsksFor (is_below l.next) asked (drop l.at l.s) (drop l.at l.t) → IsVerdict (table_weighing l.w.w0 l.w.table.items) (is_asked asked) None l.verdict (tree_of l.s) (tree_of l.t)

abbrev pub decreases-loop-next : goal.decreases-loop-next
decreases-loop-next l = rest l.next
