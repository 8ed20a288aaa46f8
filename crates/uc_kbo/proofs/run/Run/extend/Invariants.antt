use Rattle.uc_kbo.specs.Runs.{table_weighing, slot_by, read_by}
use Rattle.uc_kbo.proofs.Parts.{Taken}
use Rattle.uc_kbo.proofs.run.Run.extend.Given as goal

abbrev pub invariant-loop-n : goal.invariant-loop-n
invariant-loop-n l = Taken (table_weighing l.w.w0 l.w.table.items) (slot_by l.under l.classes) l.fn.self (read_by l.under l.classes l.n-items) l.n-index l.self
