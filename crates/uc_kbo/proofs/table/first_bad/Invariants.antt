use Rattle.uc_kbo.proofs.Tables.{Rest}
use Rattle.uc_kbo.proofs.table.first_bad.Given as goal

abbrev pub invariant-loop-i : goal.invariant-loop-i
invariant-loop-i l = Rest l.w0 l.entries l.i
