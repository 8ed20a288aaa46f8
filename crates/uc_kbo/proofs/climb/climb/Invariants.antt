use Rattle.uc_kbo.specs.Runs.{table_weighing, test_by, above_by, slot_by, read_by}
use Rattle.uc_kbo.proofs.Around.{Climbed}
use Rattle.uc_kbo.proofs.Covering.{agree_by}
use Rattle.uc_kbo.proofs.climb.climb.Given as goal

abbrev pub invariant-loop-from : goal.invariant-loop-from
invariant-loop-from l = Climbed (table_weighing l.w.w0 l.w.table.items) (test_by l.under l.classes) (above_by l.under l.classes) (agree_by l.under l.classes) (slot_by l.under l.classes) (read_by l.under l.classes l.s) (read_by l.under l.classes l.t) l.at l.part l.from l.done l.a l.b l.verdict

abbrev pub decreases-loop-from : goal.decreases-loop-from
decreases-loop-from l = l.from
