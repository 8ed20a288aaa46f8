use Rattle.std.proofs.Common.{take}
use Rattle.uc_kbo.proofs.Covering.{AreCovered}
use Rattle.uc_kbo.proofs.covers.has_all_variables.Given as goal

abbrev pub invariant-loop-n : goal.invariant-loop-n
invariant-loop-n l = AreCovered l.s l.t (take l.n-index l.t)
