use Rattle.uc_kbo.proofs.Asking.{Least}
use Rattle.uc_kbo.proofs.wide.least_of.Given as goal

abbrev pub invariant-loop-n : goal.invariant-loop-n
invariant-loop-n l = Least l.nodes l.from l.fn.least l.n-index l.result
